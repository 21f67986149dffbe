-- Lines of document 01's listing, computed from the definitions: "The program's listing".
use mathlib.Core.Path.{◌≡◌, refl}
use mathlib.Core.List.{[], ◌∷◌}
use Rattle.text_decimal.specs.Decimal.{spelled, decimal}
use Rattle.script_line.specs.Phrase.{spaced}
use Rattle.script_listing.specs.Listing.{line_of, shares_to, channel_line, links_line, refused_line, accept_line, send_line}
use Rattle.script_listing.specs.Listing.{slot_line, bad_line}

-- "links 2"
links_2 : links_line 2 ≡ 108 ∷ 105 ∷ 110 ∷ 107 ∷ 115 ∷ 32 ∷ 50 ∷ 10 ∷ []
unfolding line_of spaced decimal spelled
links_2 = refl

-- "channel 0 2/4/4 2/4/2"
channel_0 : channel_line 0 (2 ∷ 2 ∷ []) (4 ∷ 4 ∷ []) (4 ∷ 2 ∷ []) 2
    ≡ 99 ∷ 104 ∷ 97 ∷ 110 ∷ 110 ∷ 101 ∷ 108 ∷ 32 ∷ 48
    ∷ 32 ∷ 50 ∷ 47 ∷ 52 ∷ 47 ∷ 52 ∷ 32 ∷ 50 ∷ 47 ∷ 52 ∷ 47 ∷ 50 ∷ 10 ∷ []
unfolding channel_line shares_to line_of spaced decimal spelled
channel_0 = refl

-- "refused 9 0"
refused_9_0 : refused_line 9 0 ≡ 114 ∷ 101 ∷ 102 ∷ 117 ∷ 115 ∷ 101 ∷ 100 ∷ 32 ∷ 57 ∷ 32 ∷ 48 ∷ 10 ∷ []
unfolding line_of spaced decimal spelled
refused_9_0 = refl

-- "accept 0 1 10"
accept_0_1_10 : accept_line 0 1 10 ≡ 97 ∷ 99 ∷ 99 ∷ 101 ∷ 112 ∷ 116 ∷ 32 ∷ 48 ∷ 32 ∷ 49 ∷ 32 ∷ 49 ∷ 48 ∷ 10 ∷ []
unfolding line_of spaced decimal spelled
accept_0_1_10 = refl

-- "send 4 0 1 0 2"
send_4_0_1_0_2 : send_line (record { slot = 4; link = 0; channel = 1; message = 0; packet = 2 })
    ≡ 115 ∷ 101 ∷ 110 ∷ 100 ∷ 32 ∷ 52 ∷ 32 ∷ 48 ∷ 32 ∷ 49 ∷ 32 ∷ 48 ∷ 32 ∷ 50 ∷ 10 ∷ []
unfolding line_of spaced decimal spelled
send_4_0_1_0_2 = refl

-- "slot 6"
slot_6 : slot_line 6 ≡ 115 ∷ 108 ∷ 111 ∷ 116 ∷ 32 ∷ 54 ∷ 10 ∷ []
unfolding line_of spaced decimal spelled
slot_6 = refl

-- "bad 12"
bad_12 : bad_line 12 ≡ 98 ∷ 97 ∷ 100 ∷ 32 ∷ 49 ∷ 50 ∷ 10 ∷ []
unfolding line_of spaced decimal spelled
bad_12 = refl
