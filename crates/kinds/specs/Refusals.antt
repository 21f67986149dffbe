-- Document 01, "Numbers given back on a refusal": "A refusal gives a number and a place."
use Rattle.std.specs.Prelude.{ℕ}
use Rattle.kinds.specs.declared.Refusal.{Refusal}
use Rattle.kinds.specs.declared.Refusal.TheVariants.{Range, RouteLength, NoLink, LinkTwice, LinksApart, ChannelsFull, RowsFull}
use Rattle.kinds.specs.declared.Refusal.TheVariants.{NoResponse, OverD, BufferFull, NoChannel, MessageLength, Burst, EndSlot}
use Rattle.kinds.specs.declared.Refusal.TheVariants.{OutShort, BadLinks, NotSound, BadTable}

abbrev pub number_of : Refusal → ℕ
number_of Range = 1
number_of RouteLength = 2
number_of (NoLink place) = 3
number_of (LinkTwice place) = 4
number_of (LinksApart place) = 5
number_of ChannelsFull = 6
number_of (RowsFull place) = 7
number_of (NoResponse place) = 8
number_of OverD = 9
number_of (BufferFull place) = 10
number_of NoChannel = 11
number_of MessageLength = 12
number_of Burst = 13
number_of EndSlot = 14
number_of OutShort = 15
number_of (BadLinks place) = 16
number_of NotSound = 17
number_of BadTable = 18

-- "where none is named it is 0"
abbrev pub place_of : Refusal → ℕ
place_of Range = 0
place_of RouteLength = 0
place_of (NoLink place) = place
place_of (LinkTwice place) = place
place_of (LinksApart place) = place
place_of ChannelsFull = 0
place_of (RowsFull place) = place
place_of (NoResponse place) = place
place_of OverD = 0
place_of (BufferFull place) = place
place_of NoChannel = 0
place_of MessageLength = 0
place_of Burst = 0
place_of EndSlot = 0
place_of OutShort = 0
place_of (BadLinks place) = place
place_of NotSound = 0
place_of BadTable = 0
