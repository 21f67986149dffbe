-- What C calls: each contract permits one outcome only.
use Rattle.byanghosu.specs.contracts as byanghosu
use Rattle.byanghosu.proofs as byanghosu_proofs
use Rattle.unique.specs.Unique.{Unique}
use Rattle.unique.proofs.Shapes.{whole, ◌&◌, part, answer, first, second, third, fourth}

-- Where C is given several numbers, one equation has them all, as a record: a proof says where in the outcome each field stands.
pub byanghosu_response : Unique byanghosu.byanghosu_response.ended byanghosu_proofs.byanghosu_response.Reads.Post
byanghosu_response κs a = whole (part (λ v o. (v.number, (tt, (tt, (tt, (v.response, (v.trials, (v.place, tt)))))))))

pub byanghosu_set_up : Unique byanghosu.byanghosu_set_up.ended byanghosu_proofs.byanghosu_set_up.Reads.Post
byanghosu_set_up κs a = whole (part (λ v o. (v.number, (o.1.0, (tt, (v.place, tt))))) & first)

pub byanghosu_open : Unique byanghosu.byanghosu_open.ended byanghosu_proofs.byanghosu_open.Reads.Post
byanghosu_open κs a =
    whole (part (λ record { number = n; place = at; channel = x; responses = r; delays = d; reserved = k } o.
    (n, (o.1.0, (tt, (tt, (tt, (tt, (tt, (x, (r, (d, (k, (at, tt))))))))))))) & first)

pub byanghosu_offer : Unique byanghosu.byanghosu_offer.ended byanghosu_proofs.byanghosu_offer.Reads.Post
byanghosu_offer κs a =
    whole (part (λ v o. (v.number, (o.1.0, (tt, (tt, (v.message, (v.logical, (v.place, tt)))))))) & first)

pub byanghosu_slot : Unique byanghosu.byanghosu_slot.ended byanghosu_proofs.byanghosu_slot.Reads.Post
byanghosu_slot κs a = whole (answer & first & second & third & fourth)

pub byanghosu_idle : Unique byanghosu.byanghosu_idle.ended byanghosu_proofs.byanghosu_idle.Reads.Post
byanghosu_idle κs a = whole (part (λ v o. (v.number, (tt, (v.slots, (v.place, tt))))))

pub byanghosu_skip : Unique byanghosu.byanghosu_skip.ended byanghosu_proofs.byanghosu_skip.Reads.Post
byanghosu_skip κs a = whole (part (λ v o. (v.number, (o.1.0, (tt, (v.slots, (v.place, tt)))))) & first)

pub byanghosu_sound : Unique byanghosu.byanghosu_sound.ended byanghosu_proofs.byanghosu_sound.Reads.Post
byanghosu_sound κs a = whole answer
