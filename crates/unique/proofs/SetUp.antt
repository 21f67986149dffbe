-- Set-up and its parts: each contract permits one outcome only.
use Rattle.setup_list.specs.contracts as setup_list
use Rattle.setup_list.proofs as setup_list_proofs
use Rattle.setup_fresh.specs.contracts as setup_fresh
use Rattle.setup_fresh.proofs as setup_fresh_proofs
use Rattle.setup.specs.contracts as setup
use Rattle.setup.proofs as setup_proofs
use Rattle.unique.specs.Unique.{Unique}
use Rattle.unique.proofs.Shapes.{whole, ◌&◌, answer, first}

pub setup_list_links_in : Unique setup_list.links_in.ended setup_list_proofs.links_in.Reads.Post
setup_list_links_in κs a = whole answer

pub setup_list_bad_link : Unique setup_list.bad_link.ended setup_list_proofs.bad_link.Reads.Post
setup_list_bad_link κs a = whole answer

pub setup_fresh_clear : Unique setup_fresh.clear.ended setup_fresh_proofs.clear.Reads.Post
setup_fresh_clear κs a = whole first

pub setup_fresh_put_links : Unique setup_fresh.put_links.ended setup_fresh_proofs.put_links.Reads.Post
setup_fresh_put_links κs a = whole first

pub setup_set_up : Unique setup.set_up.ended setup_proofs.set_up.Reads.Post
setup_set_up κs a = whole (answer & first)
