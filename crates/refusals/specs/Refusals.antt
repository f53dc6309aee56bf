-- The refusals by their numbers, and in words.
use Rattle.std.specs.Prelude.{ℕ, List, codes}
use Rattle.refusals.specs.declared.Refusal.{Refusal}
use Rattle.refusals.specs.declared.Refusal.TheVariants.{PointOutside, CellOutside, StoreFull, BadMaking}

abbrev pub refusal_number : Refusal → ℕ
refusal_number PointOutside = 1
refusal_number CellOutside = 2
refusal_number StoreFull = 8
refusal_number BadMaking = 12

abbrev pub refusal_text : Refusal → List ℕ
refusal_text PointOutside = codes "a grid coordinate is outside 0 to 1023"
refusal_text CellOutside = codes "a cell coordinate is outside 0 to 7"
refusal_text StoreFull = codes "no further cell can be filled"
refusal_text BadMaking = codes "the size, a key or the id is out of range"
