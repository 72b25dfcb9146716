use Rattle.std.proofs.Common.{◌≡◌, sym, refl, rules}
use borrow.Author.Tests.{clash}
use Rattle.model.proofs.Chains.{stay_at}
use Rattle.graphs.proofs.LevelByLevel.{role_sound, role_complete, user_none}
use Rattle.graphs.proofs.bit_rows.BitRowsGraph.reaches.Goals as goal

pub returns-then-eq : goal.returns-then-eq
returns-then-eq c =
    let same : c.args.from ≡ c.args.to = search rules in
    ((λ _. record { from = sym c.if-not-is_in_range.ensures; to = sym c.if-not-is_in_range-2.ensures; chain = stay_at _ _ same }), (λ _. refl))

pub returns-in-Role : goal.returns-in-Role
returns-in-Role c =
    let differ : c.args.from ≡ c.args.to → ⊥ = search rules in
    let rows = c.args.self.now.rows in (
      (λ t. record { from = sym c.if-not-is_in_range.ensures; to = sym c.if-not-is_in_range-2.ensures; chain = role_sound rows c.args.from c.args.to c.in-Role.role c.below.result c.contains.result (sym c.if-not-is_in_range-2.ensures) c.in-Role.is c.contains.ensures c.below.ensures.sound t }),
      (λ h. role_complete rows c.args.from c.args.to c.in-Role.role c.below.result c.contains.result differ c.in-Role.is c.contains.ensures c.below.ensures.complete h.chain),
    )

pub returns-in-User : goal.returns-in-User
returns-in-User c =
    let differ : c.args.from ≡ c.args.to → ⊥ = search rules in (
      (λ z. absurd (clash z)),
      (λ h. absurd (user_none c.args.self.now.rows c.args.from c.args.to c.in-User.field-0 differ c.in-User.is h.chain)),
    )
