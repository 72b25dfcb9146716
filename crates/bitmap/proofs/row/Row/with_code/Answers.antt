use Rattle.std.proofs.Common.{◌≡◌, ◌+◌, refl, ◌∙◌, arith}
use Rattle.bitmap.proofs.ItemLaws.{five_bits, upper_at, bit_test}
use Rattle.bitmap.proofs.row.Row.with_code.Goals as goal

pub returns : goal.returns
returns c =
    let k = c.args.k in
    let a = c.with_digit.ensures in
    let b = c.with_option.ensures in
    let t = c.with_digit-2.ensures in
    let s = c.with_digit-3.ensures in
    let d = c.with_digit-4.ensures in
    let n = c.with_digit-5.ensures in
    record {
      here = omega (arith, five_bits c.args.code c.requires.code, b.others k (λ e. omega arith), a.same, t.same, s.same, d.same, n.same);
      option_here = bit_test c.args.option b.same;
      others = λ j p q. omega (arith, b.others j q, a.others j p, t.others j p, s.others j p, d.others j p, n.others j p);
      acl_others = λ j p q. b.others j q ∙ a.others j p;
      upper =
          let far : k + 16 ≡ k → ⊥ = λ e. omega arith in
          upper_at _ _ (t.others (k + 16) far) (s.others (k + 16) far) (d.others (k + 16) far) (n.others (k + 16) far);
      granter = refl;
      grantee = refl;
    }
