use Rattle.std.proofs.Common.{◌<◌, length, ap, arith, length-set, leb-true}
use Rattle.model.proofs.SoundGraphs.{link_taken}
use Rattle.graphs.specs.Levels.{graph_of}
use Rattle.graphs.specs.Records.{held}
use Rattle.graphs.specs.Meanings.{list_graph, list_full, list_sound}
use Rattle.graphs.proofs.LevelTables.{link_kept}
use Rattle.graphs.proofs.RecordLists.{held_push, distinct_push}
use Rattle.graphs.proofs.link_list.LinkList.put.Goals as goal

pub invariant_of-self : goal.invariant_of-self
invariant_of-self c =
    let s = c.args.self.now in
    let xs = s.links.now in
    let x = c.args.link in
    let t = link_taken (list_full s) (list_graph s) x.upper x.lower (list_sound s) c.requires in
    let l : s.len < length xs = omega (arith, leb-true _ _ t.memory, t.few, s.kept.counted) in
    record {
      fits = simp length-set (omega arith);
      kept = link_kept s.levels.of_roles (held xs s.len) s.len (list_sound s) s.kept (list_full s) x.upper x.lower _ c.requires (held_push xs s.len x.upper x.lower l);
      distinct = distinct_push xs s.len x.upper x.lower l s.distinct t.absent;
    }

pub returns-clause-after : goal.returns-clause-after
returns-clause-after c =
    let s = c.args.self.now in
    let xs = s.links.now in
    let x = c.args.link in
    let t = link_taken (list_full s) (list_graph s) x.upper x.lower (list_sound s) c.requires in
    let l : s.len < length xs = omega (arith, leb-true _ _ t.memory, t.few, s.kept.counted) in
    ap (graph_of s.levels.of_roles) (held_push xs s.len x.upper x.lower l)
