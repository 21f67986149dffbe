-- Where there is no response: rows (1, 4, 2), (2, 6, 3), C 3, and a limit of 9, by three trials, 6→7→9→10. Computed from the
-- definitions.
use mathlib.Core.Path.{◌≡◌, refl}
use mathlib.Core.List.{List, [], ◌∷◌}
use Rattle.response.specs.declared.Row.{Row}
use Rattle.response.specs.Need.{ceil, work, need, packets, start}
use Rattle.response.specs.Trials.{nothing, tried, response}

rows : List Row
rows = record { c = 1; p = 4; delay = 2 } ∷ (record { c = 2; p = 6; delay = 3 } ∷ [])

none : response 3 rows 9 ≡ nothing 3
unfolding rows ceil work need packets start tried response
none = refl
