-- Document 01's refusal numbers, in its order, and what is told of a place 5 where one is named. Computed.
use Prim.Native.Nat.{ℕ}
use mathlib.Core.Path.{◌≡◌, refl}
use mathlib.Core.List.{List, [], ◌∷◌, map}
use Rattle.kinds.specs.declared.Refusal.{Refusal}
use Rattle.kinds.specs.declared.Refusal.TheVariants.{Range, RouteLength, NoLink, LinkTwice, LinksApart, ChannelsFull, RowsFull}
use Rattle.kinds.specs.declared.Refusal.TheVariants.{NoResponse, OverD, BufferFull, NoChannel, MessageLength, Burst, EndSlot}
use Rattle.kinds.specs.declared.Refusal.TheVariants.{OutShort, BadLinks, NotSound, BadTable}
use Rattle.kinds.specs.Refusals.{number_of, place_of}

-- all of them
abbrev refusals : List Refusal
refusals =
    Range ∷ RouteLength ∷ NoLink 5 ∷ LinkTwice 5 ∷ LinksApart 5 ∷ ChannelsFull ∷ RowsFull 5 ∷ NoResponse 5 ∷ OverD ∷ BufferFull 5
    ∷ NoChannel ∷ MessageLength ∷ Burst ∷ EndSlot ∷ OutShort ∷ BadLinks 5 ∷ NotSound ∷ BadTable ∷ []

numbers : map number_of refusals ≡ 1 ∷ 2 ∷ 3 ∷ 4 ∷ 5 ∷ 6 ∷ 7 ∷ 8 ∷ 9 ∷ 10 ∷ 11 ∷ 12 ∷ 13 ∷ 14 ∷ 15 ∷ 16 ∷ 17 ∷ 18 ∷ []
numbers = refl

places : map place_of refusals ≡ 0 ∷ 0 ∷ 5 ∷ 5 ∷ 5 ∷ 0 ∷ 5 ∷ 5 ∷ 0 ∷ 5 ∷ 0 ∷ 0 ∷ 0 ∷ 0 ∷ 0 ∷ 5 ∷ 0 ∷ 0 ∷ []
places = refl
