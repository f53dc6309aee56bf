-- What a sight line and a change of a cell come to.
use Rattle.std.specs.Prelude.{ℕ, ◌%◌, Bool, true, false, Some, None, Ok, Err, Option, Result}
use Rattle.query.specs.declared.ray.RayIntersection.{RayIntersection}
use Rattle.query.specs.declared.feature_id.FeatureId.{FeatureId}
use Rattle.query.specs.declared.feature_id.FeatureId.TheVariants as feature
use Rattle.voxels.specs.declared.chunk_cast.ChunkCast.{ChunkCast}
use Rattle.refusals.specs.declared.Refusal.{Refusal}
use Rattle.session.specs.declared.outcome.Outcome.{Outcome}
use Rattle.session.specs.declared.outcome.Outcome.TheVariants.{Blank, Done, Clear, Blocked, Refused, RoomMissing, RoomTwice, Unclear}

-- A chunk's hit is at the face id * 512 + cell number; 512 is no cell.
abbrev pub hit_cell : FeatureId → ℕ
hit_cell (feature.Face n) = n % 512
hit_cell (feature.Vertex n) = 512
hit_cell (feature.Edge n) = 512
hit_cell feature.Unknown = 512

abbrev pub sight_outcome : Option RayIntersection → ℕ → Outcome
sight_outcome None visited = Clear visited
sight_outcome (Some h) visited = Blocked (hit_cell h.feature) h.time_of_impact visited

abbrev pub seen : ChunkCast → Outcome
seen c = sight_outcome c.hit c.visited

abbrev pub done_or : Result (Unit {0}) Refusal → Outcome
done_or (Ok u) = Done
done_or (Err r) = Refused r

abbrev pub is_sight : Outcome → Bool
is_sight Blank = false
is_sight Done = false
is_sight (Clear visited) = true
is_sight (Blocked cell time visited) = true
is_sight (Refused r) = false
is_sight RoomMissing = false
is_sight RoomTwice = false
is_sight (Unclear wanted) = false
