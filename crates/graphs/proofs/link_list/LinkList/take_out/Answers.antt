use Rattle.std.proofs.Common.{◌-◌, refl, ap, arith, length-set}
use Rattle.graphs.specs.Levels.{graph_of}
use Rattle.graphs.specs.Records.{held, at_place}
use Rattle.graphs.specs.Meanings.{list_sound}
use Rattle.graphs.proofs.LevelTables.{cut_kept}
use Rattle.graphs.proofs.RecordLists.{strike}
use Rattle.graphs.proofs.link_list.LinkList.take_out.Goals as goal

pub invariant_of-self : goal.invariant_of-self
invariant_of-self c =
    let s = c.args.self.now in
    let xs = s.links.now in
    let x = at_place xs c.args.place in
    let t = strike xs c.args.place s.len (s.len - 1) refl c.requires s.fits s.distinct in
    record {
      fits = simp length-set (omega arith);
      kept = cut_kept s.levels.of_roles (held xs s.len) s.len (list_sound s) s.kept x.upper x.lower _ t.stood t.after;
      distinct = t.distinct;
    }

pub returns-clause-after : goal.returns-clause-after
returns-clause-after c =
    let s = c.args.self.now in
    ap (graph_of s.levels.of_roles) (strike s.links.now c.args.place s.len (s.len - 1) refl c.requires s.fits s.distinct).after
