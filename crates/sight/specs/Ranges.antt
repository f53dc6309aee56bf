-- Which coordinates name a grid point, and which a cell.
use Rattle.std.specs.Prelude.{Bool, pos}
use Rattle.math.specs.declared.IVector.{IVector}
use Rattle.math.specs.Vectors.{all_between}

-- grid points: units of 1/128 cell from the chunk's lowest corner
abbrev pub grid_fits : IVector → Bool
grid_fits p = all_between (pos 0) (pos 1023) p

-- cells by their coordinates
abbrev pub cell_fits : IVector → Bool
cell_fits c = all_between (pos 0) (pos 7) c
