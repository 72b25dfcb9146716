-- A principal through the roles that it acts as.
use Rattle.std.proofs.Common.{◌≡◌, ℕ, ◌+◌, ◌<◌, true, ◌⊎◌, sym, refl, subst, inl, inr, ⊎_elim, arith}
use Rattle.std.proofs.lemmas.Bool.{cases_eq, lt-ltb}
use Rattle.model.specs.States.{States, Lawful}
use Rattle.model.specs.Graphs.{RoleGraph, Chain, via, Reaches, Sound}
use Rattle.model.specs.Places.{place}
use Rattle.model.specs.Stores.{Cells}
use Rattle.model.specs.declared.principal.Principal.{Principal}
use Rattle.model.specs.declared.principal.Principal.TheVariants.{User, Role}
use Rattle.model.specs.declared.privilege.Privilege.{Privilege}
use Rattle.model.proofs.Chains.{first_link}
use Rattle.model.proofs.SoundGraphs.{lower_in_range, upper_in_range}
use Rattle.access.specs.Masters.{Masters}
use Rattle.access.specs.Reaching.{Way, ReachesRole, Reaching, Strongest, IsAnswer}
use Rattle.access.specs.RoleByRole.{ActsAs, From, FromBelow, Apart, SoFar, Added}
use Rattle.access.proofs.StrongestOf.{strongest_same, strongest_of_both}

module _ (g : RoleGraph) (sound : Sound g) where
  -- what a principal reaches, it reaches through a role that it acts as
  reaches_through : (q : Principal) (at : ℕ) → Reaches g q (Role at) → (r : ℕ) × ActsAs g q r × Reaches g (Role r) (Role at)
  reaches_through (Role own) at h = (own, refl, h)
  reaches_through (User u) at h = go (first_link h.chain)
    where
      go : (User u ≡ Role at) ⊎ ((r : ℕ) × (g.linked (User u) r ≡ true) × Chain g.linked (Role r) (Role at)) → (r : ℕ) × ActsAs g (User u) r × Reaches g (Role r) (Role at)
      go (inl e) = absurd (cc)
      go (inr f) =
          let low = lower_in_range g.level sound.roles_in_range (User u) f.0 (sound.falling (User u) f.0 f.1) in
          (f.0, f.1, record { from = lt-ltb f.0 64 low; to = h.to; chain = f.2 })

  through_reaches : (q : Principal) (at r : ℕ) → ActsAs g q r → Reaches g (Role r) (Role at) → Reaches g q (Role at)
  through_reaches (Role own) at r e h = subst (λ x. Reaches g (Role x) (Role at)) (sym e) h
  through_reaches (User u) at r e h = record {
    from = upper_in_range g.level sound.roles_in_range (User u) r (sound.falling (User u) r e);
    to = h.to;
    chain = via (User u) (Role at) r e h.chain;
  }

  module _ {S : Type 0} (cells : Cells S) (o : ℕ) (p : Privilege) (q : Principal) where
    -- the state reaches a role that q acts as
    pub record ThroughActing (s : S) : Type 0 where
      pub role : ℕ
      pub acts : ActsAs g q role
      pub reaches : ReachesRole g cells o p role s

    -- from the number of the role at which it stands
    way_through : (at : ℕ) → at < 64 → (s : S) → From g cells o p q at s → ThroughActing s
    way_through at lt s (inl h) =
        record { role = at; acts = h.0; reaches = record { granter = h.1.granter; at = at; in_range = lt; state = h.1.state; way = inl refl } }
    way_through at lt s (inr (inl h)) =
        let r = reaches_through q at h.1 in
        record {
          role = r.0;
          acts = r.1;
          reaches = record {
            granter = h.0.granter;
            at = at;
            in_range = lt;
            state = h.0.state;
            way = ⊎_elim
                (λ (e : r.0 ≡ at). inl (sym e))
                (λ (ne : r.0 ≡ at → ⊥). inr (inl (h.0.oriented, record { differ = ne; reaches = r.2 })))
                (cases_eq r.0 at);
          };
        }
    way_through at lt s (inr (inr h)) = record {
      role = h.1.role;
      acts = h.1.acts;
      reaches = record { granter = h.0.granter; at = at; in_range = lt; state = h.0.state; way = inr (inr (h.0.oriented, h.1.above)) };
    }

    through_way : (s : S) (h : ThroughActing s) → From g cells o p q h.reaches.at s
    through_way s h = go h.reaches.way
      where
        x : ReachesRole g cells o p h.role s
        x = h.reaches

        go : Way g h.role x.at (cells (place o x.granter (Role x.at) p)) → From g cells o p q x.at s
        go (inl e) = inl (subst (ActsAs g q) (sym e) h.acts, record { granter = x.granter; state = x.state })
        go (inr (inl y)) = inr (inl (record { granter = x.granter; state = x.state; oriented = y.0 }, through_reaches q x.at h.role h.acts y.1.reaches))
        go (inr (inr y)) = inr (inr (record { granter = x.granter; state = x.state; oriented = y.0 }, record { role = h.role; acts = h.acts; above = y.1 }))

    from_below : (s : S) → FromBelow g cells o p q 64 s → ThroughActing s
    from_below s h = way_through h.role h.less s h.from

    to_below : (s : S) → ThroughActing s → FromBelow g cells o p q 64 s
    to_below s h = record { role = h.reaches.at; less = h.reaches.in_range; from = through_way s h }

  module _ {S : Type 0} (st : States S) (masters : Masters) (cells : Cells S) (o : ℕ) (p : Privilege) where
    reaching : (q : Principal) (s : S) → Apart st masters cells o p q s ⊎ ThroughActing cells o p q s → Reaching st g masters cells o p q s
    reaching (Role r) s (inl h) = absurd h
    reaching (Role r) s (inr h) = subst (λ x. ReachesRole g cells o p x s) (sym h.acts) h.reaches
    reaching (User u) s (inl (inl h)) = inl h
    reaching (User u) s (inl (inr h)) = inr (inr h)
    reaching (User u) s (inr h) = inr (inl (record { role = h.role; held = h.acts; reaches = h.reaches }))

    reached : (q : Principal) (s : S) → Reaching st g masters cells o p q s → Apart st masters cells o p q s ⊎ ThroughActing cells o p q s
    reached (Role r) s h = inr (record { role = r; acts = refl; reaches = h })
    reached (User u) s (inl h) = inl (inl h)
    reached (User u) s (inr (inl h)) = inr (record { role = h.role; acts = h.held; reaches = h.reaches })
    reached (User u) s (inr (inr h)) = inl (inr h)

    pub so_far_all : Lawful st → (q : Principal) (s : S) → Strongest st (SoFar st g masters cells o p q 64) s → IsAnswer st g masters cells o p q s
    so_far_all law q s = strongest_same st law (SoFar st g masters cells o p q 64) (Reaching st g masters cells o p q) s to from
      where
        to : (t : S) → SoFar st g masters cells o p q 64 t → Reaching st g masters cells o p q t
        to t (inl h) = reaching q t (inl h)
        to t (inr h) = reaching q t (inr (from_below cells o p q t h))

        all : (t : S) → Apart st masters cells o p q t ⊎ ThroughActing cells o p q t → SoFar st g masters cells o p q 64 t
        all t (inl h) = inl h
        all t (inr h) = inr (to_below cells o p q t h)

        from : (t : S) → Reaching st g masters cells o p q t → SoFar st g masters cells o p q 64 t
        from t h = all t (reached q t h)

module _ {S : Type 0} (st : States S) (law : Lawful st) (g : RoleGraph) (masters : Masters) (cells : Cells S) (o : ℕ) (p : Privilege) (q : Principal) where
  abbrev Now : ℕ → S → Type 0
  Now n s = SoFar st g masters cells o p q n s

  pub so_far_more : (n : ℕ) (best r : S) → Strongest st (Now n) best → Added st (From g cells o p q n) best r → Strongest st (Now (n + 1)) r
  so_far_more n best r x more =
      strongest_same st law (λ t. Now n t ⊎ From g cells o p q n t) (Now (n + 1)) r to from (strongest_of_both st law _ _ best more.state r x more.strongest more.stronger)
    where
      to : (t : S) → Now n t ⊎ From g cells o p q n t → Now (n + 1) t
      to t (inl (inl h)) = inl h
      to t (inl (inr h)) = inr (record { role = h.role; less = omega (arith, h.less); from = h.from })
      to t (inr h) = inr (record { role = n; less = omega arith; from = h })

      from : (t : S) → Now (n + 1) t → Now n t ⊎ From g cells o p q n t
      from t (inl h) = inl (inl h)
      from t (inr h) = ⊎_elim
          (λ (e : h.role ≡ n). inr (subst (λ k. From g cells o p q k t) e h.from))
          (λ (ne : h.role ≡ n → ⊥). inl (inr (record { role = h.role; less = omega (arith, h.less); from = h.from })))
          (cases_eq h.role n)
