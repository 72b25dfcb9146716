-- What each of the two graphs means.
use Rattle.std.specs.Prelude.{Bool, length, nat_le}
use Rattle.model.specs.Graphs.{RoleGraph, Sound}
use Rattle.graphs.specs.declared.bit_rows.BitRows.{BitRows}
use Rattle.graphs.specs.declared.link_list.LinkList.{LinkList}
use Rattle.graphs.specs.Levels.{graph_of, kept_sound}
use Rattle.graphs.specs.Rows.{in_rows}
use Rattle.graphs.specs.Records.{held}

abbrev pub rows_graph : BitRows → RoleGraph
rows_graph s = graph_of s.levels.of_roles (in_rows s.rows)

abbrev pub list_graph : LinkList → RoleGraph
list_graph s = graph_of s.levels.of_roles (held s.links.now s.len)

-- full memory is 256 records or more
abbrev pub list_full : LinkList → Bool
list_full s = nat_le 256 (length s.links.now)

-- what each of them keeps makes it sound
pub rows_sound : (s : BitRows) → Sound (rows_graph s)
rows_sound s = kept_sound s.levels.of_roles (in_rows s.rows) s.len s.levels.sized s.levels.low s.kept

pub list_sound : (s : LinkList) → Sound (list_graph s)
list_sound s = kept_sound s.levels.of_roles (held s.links.now s.len) s.len s.levels.sized s.levels.low s.kept
