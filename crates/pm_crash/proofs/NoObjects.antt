-- A CALL THAT ENDED AS NoObject has its cause in the pools of the history.
use Rattle.std.proofs.Common.{◌≡◌, ◌≢◌, ◌⊎◌, inl, inr, ⊎_elim, ℕ, zero, suc, ◌+◌, ◌*◌, ◌/◌, ◌%◌, ◌<◌, ◌≤◌, ◌==◌, ◌&&◌, nat_lt, Bool, true, false, cond, Contains, ◌∷◌, refl, sym, ◌∙◌, subst, arith, eq-eqb}
use Rattle.std.proofs.lemmas.Bool.{and_from, and_parts, both_ways, cases_eq, cond-true, eqb-true, ltb-true}
use Rattle.pm_image.proofs.Members.{first_member, later_member}
use Rattle.pm_image.proofs.Rooms.{run_fits}
use Rattle.pm_layout.specs.Chunks.{chunks_of}
use Rattle.pm_layout.specs.Sizes.{blocks_of}
use Rattle.pm_layout.specs.declared.shape.Shape.{Shape}
use Rattle.pm_model.specs.Places.{can_begin}
use Rattle.pm_model.specs.Transaction.{is_gone}
use Rattle.pm_model.proofs.Beginning.{can_begin_there}
use Rattle.pm_objects.specs.declared.calls.Operation.{Operation}
use Rattle.pm_objects.specs.declared.ids.Oid.{Oid}
use Rattle.pm_view.specs.Claims.{class}
use Rattle.pm_view.specs.Places.{Block, Small, Big, Root}
use Rattle.pm_view.specs.View.{View, entry_drawn}
use Rattle.pm_world.specs.Causes.{CountsNew, drawn_by, times_missed}
use Rattle.pm_world.specs.Memory.{Memory}
use Rattle.pm_world.specs.World.{Opening, Views, Past, World, numbered_by}
use Rattle.pm_world.proofs.CrashDescriptors.{some_below}
use Rattle.pm_crash.specs.Answers.{NoObjectAt, ReportCauses, has_block, offset_by}
use Rattle.pm_crash.specs.Facts.{HasNoObjectCause, NoObjectsHaveCauses}
use Rattle.pm_crash.specs.Footprints.{Footprints}
use Rattle.pm_crash.specs.Missed.{ClassesStayKnown, FoundNone, LacksObject, MissedOffset, SawEmptyRun, is_placed, lists_before}
use Rattle.pm_crash.proofs.Classes.{run_has_lines}
use Rattle.pm_crash.proofs.EntryFacts.{histories_saw_misses}
use Rattle.pm_crash.proofs.Missing.{classes_hold, no_block}

-- ---- BLOCKS AT AN OFFSET

module _ (sh : Shape) (classes : ℕ → ℕ) (off : ℕ) where
  abbrev Begins : Block → Type 0
  Begins B = (has_block sh classes B ≡ true) × (offset_by sh classes B ≡ off)

  abbrev begins : Block → Bool
  begins B = has_block sh classes B && offset_by sh classes B == off

  so_begins : (B : Block) → begins B ≡ true → Begins B
  so_begins B e = let both = and_parts (has_block sh classes B) (offset_by sh classes B == off) e in
      (both.0, eqb-true (offset_by sh classes B) off both.1)

  begins_so : (B : Block) → Begins B → begins B ≡ true
  begins_so B b = and_from (has_block sh classes B) (offset_by sh classes B == off) b.0 (eq-eqb (offset_by sh classes B) off b.1)

  -- a block of a run, by its number among all
  few : (lines i : ℕ) → i < blocks_of lines → i < 64
  few lines i low = let fits = run_fits lines i low in let some = run_has_lines lines i low in by lines some fits
    where
      by : (n : ℕ) → 1 ≤ n → 1 + n * i + n ≤ 64 → i < 64
      by zero some fits = absurd (omega (arith, some))
      by (suc n) some fits = let p : ℕ = n * i in omega (arith, fits)

  -- some block begins there, or none does
  any_begins : ((B : Block) × Begins B) ⊎ ((B : Block) → Begins B → ⊥)
  any_begins = ⊎_elim
      (λ (y : (f : ℕ) × (f < chunks_of sh) × (begins (Big f) ≡ true)). inl (Big y.0, so_begins (Big y.0) y.2))
      (λ (no_big : (f : ℕ) → f < chunks_of sh → begins (Big f) ≡ false). ⊎_elim
      (λ (y : (j : ℕ) × (j < 64 * chunks_of sh) × (begins (Small (j / 64) (j % 64)) ≡ true)). inl (Small (y.0 / 64) (y.0 % 64), so_begins (Small (y.0 / 64) (y.0 % 64)) y.2))
      (λ (no_small : (j : ℕ) → j < 64 * chunks_of sh → begins (Small (j / 64) (j % 64)) ≡ false). inr (none no_big no_small))
      (some_below (λ j. begins (Small (j / 64) (j % 64))) (64 * chunks_of sh)))
      (some_below (λ f. begins (Big f)) (chunks_of sh))
    where
      none : ((f : ℕ) → f < chunks_of sh → begins (Big f) ≡ false) → ((j : ℕ) → j < 64 * chunks_of sh → begins (Small (j / 64) (j % 64)) ≡ false)
          → (B : Block) → Begins B → ⊥
      none no_big no_small (Small c i) b =
          let parts = and_parts (nat_lt c (chunks_of sh)) (nat_lt i (blocks_of (classes c))) b.0 in
          let chunk = ltb-true c (chunks_of sh) parts.0 in
          let low = few (classes c) i (ltb-true i (blocks_of (classes c)) parts.1) in
          both_ways (begins (Small c i))
          (subst (λ d. begins (Small d i) ≡ false) (let e : (64 * c + i) / 64 ≡ c = omega (arith, low) in e)
          (subst (λ j. begins (Small ((64 * c + i) / 64) j) ≡ false) (let e : (64 * c + i) % 64 ≡ i = omega (arith, low) in e)
          (no_small (64 * c + i) (omega (arith, low, chunk)))))
          (begins_so (Small c i) b)
      none no_big no_small (Big f) b = both_ways (begins (Big f)) (no_big f (ltb-true f (chunks_of sh) b.0)) (begins_so (Big f) b)
      none no_big no_small Root b = absurd (both_ways false refl b.0)

  -- where a block begins one can
  pub block_can_begin : (B : Block) → Begins B → can_begin sh.lanes sh.zones off ≡ true
  block_can_begin (Small c i) b =
      let parts = and_parts (nat_lt c (chunks_of sh)) (nat_lt i (blocks_of (classes c))) b.0 in
      let chunk = ltb-true c (chunks_of sh) parts.0 in
      let m : ℕ = classes c * i in
      can_begin_there sh.lanes sh.zones off (record {
        zone = c / 64;
        chunk = c % 64;
        zone_in_range = omega (arith, chunk);
        chunk_in_range = omega arith;
        begins = inr (classes c, i, ltb-true i (blocks_of (classes c)) parts.1, (let at = b.1 in omega (arith, at)));
      })
  block_can_begin (Big f) b =
      let chunk = ltb-true f (chunks_of sh) b.0 in
      can_begin_there sh.lanes sh.zones off (record {
        zone = f / 64;
        chunk = f % 64;
        zone_in_range = omega (arith, chunk);
        chunk_in_range = omega arith;
        begins = inl (let at = b.1 in omega (arith, at));
      })
  block_can_begin Root b = absurd (both_ways false refl b.0)

-- ---- THE ENTRIES OF A LANE have each of its calls
entry_of_call : (lane : ℕ) (drew : ℕ → View) (m p : ℕ) → p < m → (drew p).fixed.lane ≡ lane
    → Contains (numbered_by lane drew m) (entry_drawn p (drew p))
entry_of_call lane drew zero p low of = absurd (omega (arith, low))
entry_of_call lane drew (suc m) p low of = ⊎_elim
    (λ (q : p ≡ m). subst (λ (j : ℕ). Contains (numbered_by lane drew (suc m)) (entry_drawn j (drew j))) (sym q)
    (subst (λ es. Contains es (entry_drawn m (drew m)))
    (sym (cond-true ((drew m).fixed.lane == lane) (entry_drawn m (drew m) ∷ numbered_by lane drew m) (numbered_by lane drew m)
    (eq-eqb (drew m).fixed.lane lane (subst (λ (j : ℕ). (drew j).fixed.lane ≡ lane) q of))))
    (first_member (entry_drawn m (drew m)) (numbered_by lane drew m))))
    (λ (ne : p ≢ m). or_later ((drew m).fixed.lane == lane) (entry_of_call lane drew m p (omega (arith, low, ne)) of))
    (cases_eq p m)
  where
    or_later : (b : Bool) → Contains (numbered_by lane drew m) (entry_drawn p (drew p))
        → Contains (cond b (entry_drawn m (drew m) ∷ numbered_by lane drew m) (numbered_by lane drew m)) (entry_drawn p (drew p))
    or_later true there = later_member (entry_drawn m (drew m)) (numbered_by lane drew m) (entry_drawn p (drew p)) there
    or_later false there = there

-- ---- ONE CALL

module _ (o : Opening) (pool : ℕ) (mem : Memory) (views : Views) (g : Past) (x : World o mem views g) (footprints : Footprints o pool views g)
    (causes : ReportCauses o mem views g) (known : (k : ℕ) → k < o.lanes → ClassesStayKnown (views k)) (n : ℕ) (l : n < g.length) where
  abbrev k : ℕ
  k = (g.drew n).fixed.lane

  ink : k < o.lanes
  ink = x.of_lanes n l

  entries : (m p : ℕ) → p < m → drawn_by g p ≡ k → Contains (numbered_by k g.drew m) (entry_drawn p (g.drew p))
  entries m p low of = entry_of_call k g.drew m p low of

  -- the classes that it knew are the history's
  classes : (c : ℕ) → class (g.drew n).claims c ≢ 0 → g.geo.class c ≡ class (g.drew n).claims c
  classes c some =
      let there = subst (λ es. Contains es (entry_drawn n (g.drew n))) (sym (x.each_lane k ink).entries) (entries g.length n l refl) in
      let same : class (views k).claims c ≡ class (g.drew n).claims c = known k ink (entry_drawn n (g.drew n)) there c some in
      classes_hold o mem views g x k c (λ none. some (sym same ∙ none)) ∙ same

  -- no block begins at the offset
  no_blocks : (off : ℕ) → ((B : Block) → Begins o.shape g.geo.class off B → ⊥) → NoObjectAt o g k n off
  no_blocks off none = record {
    number = n;
    least = λ p low of. omega (arith, low);
    below = omega arith;
    none = no_block o g off (λ B at. none B (at.is_block, at.is_offset)) n;
  }

  -- each that does was missed
  missed : (off : ℕ) → MissedOffset (g.drew n) off → NoObjectAt o g k n off
  missed off miss = ⊎_elim
      (λ (y : (B : Block) × Begins o.shape g.geo.class off B). by_block y.0 y.1)
      (no_blocks off)
      (any_begins o.shape g.geo.class off)
    where
      by_block : (B : Block) → Begins o.shape g.geo.class off B → NoObjectAt o g k n off
      by_block B b =
          let sh = sym (footprints.shapes n l) in
          let m = miss g.geo.class classes B (subst (λ s. has_block s g.geo.class B ≡ true) sh b.0) (subst (λ s. offset_by s g.geo.class B ≡ off) sh b.1) in
          causes.no_object k n (g.drew n) ink (inl (l, refl, refl)) B
          (subst (λ s. CountsNew (times_missed s B) g k n (g.drew n)) (footprints.shapes n l) (record {
            some = m.some;
            since = λ p low of. m.since (entry_drawn p (g.drew p)) (subst (λ es. Contains es (entry_drawn p (g.drew p))) (sym (footprints.entries n l)) (entries n p low of));
          }))
          off (record { is_block = b.0; is_offset = b.1 })

  -- the id has no place
  unplaced : (id : Oid) → is_placed (g.drew n).fixed.shape (g.drew n).fixed.pool id ≡ false → (id.pool ≢ pool) ⊎ NoObjectAt o g k n id.off
  unplaced id e = by (id.pool == pool) refl
    where
      here : (id.pool == pool && can_begin o.shape.lanes o.shape.zones id.off) ≡ false
      here = subst (λ (s : Shape × ℕ). is_placed s.0 s.1 id ≡ false) (λ i. (footprints.shapes n l i, footprints.drawn_ids n l i)) e

      by : (b : Bool) → (id.pool == pool) ≡ b → (id.pool ≢ pool) ⊎ NoObjectAt o g k n id.off
      by false t = inl (λ same. both_ways (id.pool == pool) t (eq-eqb id.pool pool same))
      by true t = inr (no_blocks id.off (λ B b. both_ways (id.pool == pool && can_begin o.shape.lanes o.shape.zones id.off) here
          (and_from (id.pool == pool) (can_begin o.shape.lanes o.shape.zones id.off) t (block_can_begin o.shape g.geo.class id.off B b))))

  cause : (op : Operation) → LacksObject (g.drew n) op → HasNoObjectCause o pool g n op
  cause op lacks = record {
    id = lacks.id;
    named = lacks.named;
    why = ⊎_elim
        (λ (e : is_placed (g.drew n).fixed.shape (g.drew n).fixed.pool lacks.id ≡ false). ⊎_elim
        (λ (other : lacks.id.pool ≢ pool). inl other)
        (λ (at : NoObjectAt o g k n lacks.id.off). inr (inl at))
        (unplaced lacks.id e))
        (λ (e : FoundNone (g.drew n) lacks.id.off ⊎ (is_gone (lists_before (g.drew n)) lacks.id.off ≡ true)). ⊎_elim
        (λ (none : FoundNone (g.drew n) lacks.id.off). ⊎_elim
        (λ (m : MissedOffset (g.drew n) lacks.id.off). inr (inl (missed lacks.id.off m)))
        (λ (empty : SawEmptyRun (g.drew n).claims). inr (inr (inl empty)))
        none)
        (λ (gone : is_gone (lists_before (g.drew n)) lacks.id.off ≡ true). inr (inr (inr gone)))
        e)
        lacks.why;
  }

pub have_causes : NoObjectsHaveCauses
have_causes o pool mem views g x footprints causes known facts n op l last = ⊎_elim
    (λ (lacks : LacksObject (g.drew n) op). inl (cause o pool mem views g x footprints causes known n l op lacks))
    (λ (late : (lists_before (g.drew n)).pending.late ≡ true). inr late)
    (histories_saw_misses o pool mem views g x footprints facts n l op last)
