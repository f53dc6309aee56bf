-- Grid points and keys as points and cells of the exact line.
use Rattle.sight.specs.declared.grid_point.GridPoint.{GridPoint}
use Rattle.grid.specs.declared.voxel_key.VoxelKey.{VoxelKey}
use Rattle.line.specs.Line.{Point, Cell}

abbrev pub point_of : GridPoint → Point
point_of p = record { x = p.x; y = p.y; z = p.z }

abbrev pub cell_of_key : VoxelKey → Cell
cell_of_key k = record { x = k.x; y = k.y; z = k.z }

abbrev pub key_of_cell : Cell → VoxelKey
key_of_cell c = record { x = c.x; y = c.y; z = c.z }
