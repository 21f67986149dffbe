-- An offer: each contract permits one outcome only.
use Rattle.offer.specs.contracts as offer
use Rattle.offer.proofs as offer_proofs
use Rattle.unique.specs.Unique.{Unique}
use Rattle.unique.proofs.Shapes.{whole, ◌&◌, answer, first}

pub offer_offer : Unique offer.offer.ended offer_proofs.offer.Reads.Post
offer_offer κs a = whole (answer & first)
