-- EACH BUSY HAS ITS CAUSE, and steps keep it: a call of another lane at the same time that had
-- the lock.
use Rattle.std.proofs.Common.{◌≡◌, ◌≢◌, ◌⊎◌, inl, inr, ⊎_elim, ℕ, suc, ◌<◌, ◌≤◌}
use Rattle.std.proofs.Common.{Bool, true, false, List, ◌∷◌}
use Rattle.std.proofs.Common.{refl, sym, ap, ◌∙◌, subst, arith, None}
use Rattle.std.proofs.lemmas.Bool.{cases_eq, both_ways, or_cases}
use Rattle.std.proofs.lemmas.Option.{none-some}
use Rattle.pm_view.specs.Places.{Block, Geometry}
use Rattle.pm_view.specs.Claims.{Claim, reads, holds}
use Rattle.pm_view.specs.Log.{Phase, Idle, Open, Drawn, Sealing, Applying, Clearing, Retiring}
use Rattle.pm_view.specs.Log.{Voiding}
use Rattle.pm_view.specs.Steps.{Step}
use Rattle.pm_view.specs.Steps.Step.{Load, Store, Or, And, Flush, Drain, TakeWrite, TakeRead}
use Rattle.pm_view.specs.Steps.Step.{Raise, Give, ZoneTry, ZoneGive, Occupied, Occupy, Vacate}
use Rattle.pm_view.specs.Steps.Step.{Draw, NumberSeen, StopSeen, SetStop, Tell}
use Rattle.pm_view.specs.View.{View}
use Rattle.pm_view.specs.Views.{after, begun}
use Rattle.pm_world.specs.Memory.{Memory}
use Rattle.pm_world.specs.Moves.{Moves}
use Rattle.pm_world.specs.Lawful.{IsLawful}
use Rattle.pm_world.specs.Laws.{Turn}
use Rattle.pm_world.specs.World.{Opening, Views, Past, World}
use Rattle.pm_world.specs.Course.{past_drawn}
use Rattle.pm_world.specs.Causes.{drawn_by, IsCall, CountsNew, Overlaps, is_refused, was_refused}
use Rattle.pm_world.specs.Causes.{times_locked, times_missed}
use Rattle.pm_world.specs.Causes.{HadLock, BusyCause, BusyHasCause, HeldSince, LanesCount}
use Rattle.pm_world.proofs.ClaimCounts.{Rising, rising_locked, rising_missed, grows, held_before}
use Rattle.pm_world.proofs.LockHolders.{refusal_shows_lock}
use Rattle.pm_world.proofs.Replays.{put1_here, put1_else}

-- a past with these entries
abbrev pub with_others : Past → (ℕ → Bool) → (ℕ → Bool) → Geometry → (Block → ℕ) → Past
with_others g decided runs geo holder = record {
  drew = g.drew;
  length = g.length;
  decided =
      decided;
  runs = runs;
  geo = geo;
  holder = holder;
}

-- what a view was refused in a call without a number: by this step, or before
refused_before : (l : ℕ) (v : View) (s : Step) → (after v s).number ≡ None
    → was_refused l (after v s).seen ≡ true
    → (is_refused l s ≡ true) ⊎ ((v.number ≡ None) × (was_refused l v.seen ≡ true))
refused_before l v (TakeWrite m won) n r = ⊎_elim (λ (q : is_refused l (TakeWrite m won) ≡ true).
    inl q)
    (λ (q : was_refused l v.seen ≡ true). inr (n, q))
    (or_cases (is_refused l (TakeWrite m won)) (was_refused l v.seen) r)
refused_before l v (TakeRead m won) n r = ⊎_elim (λ (q : is_refused l (TakeRead m won) ≡ true).
    inl q)
    (λ (q : was_refused l v.seen ≡ true). inr (n, q))
    (or_cases (is_refused l (TakeRead m won)) (was_refused l v.seen) r)
refused_before l v (Raise m won) n r = ⊎_elim (λ (q : is_refused l (Raise m won) ≡ true). inl q)
    (λ (q : was_refused l v.seen ≡ true). inr (n, q))
    (or_cases (is_refused l (Raise m won)) (was_refused l v.seen) r)
refused_before l v (Load w y) n r = inr (n, r)
refused_before l v (Store w y) n r = inr (n, r)
refused_before l v (Or w bits found) n r = inr (n, r)
refused_before l v (And w bits found) n r = inr (n, r)
refused_before l v (Flush line) n r = inr (n, r)
refused_before l v Drain n r = inr (n, r)
refused_before l v (Give line) n r = inr (n, r)
refused_before l v (ZoneTry zone won) n r = inr (n, r)
refused_before l v (ZoneGive zone) n r = inr (n, r)
refused_before l v (Occupied at found) n r = inr (n, r)
refused_before l v (Occupy at bits true) n r = inr (n, r)
refused_before l v (Occupy at bits false) n r = inr (n, r)
refused_before l v (Vacate at bits) n r = inr (n, r)
refused_before l v (Draw m) n r = absurd (none-some (suc m) (sym n))
refused_before l v (NumberSeen m) n r = begins v.log.phase n r
  where
    begins : (ph : Phase) → (begun ph v).number ≡ None
        → was_refused l (NumberSeen m ∷ (begun ph v).seen) ≡ true
        → (is_refused l (NumberSeen m) ≡ true) ⊎
        ((v.number ≡ None) × (was_refused l v.seen ≡ true))
    begins Idle n r = absurd (both_ways false refl r)
    begins Open n r = inr (n, r)
    begins (Drawn i) n r = inr (n, r)
    begins (Sealing i) n r = inr (n, r)
    begins (Applying todo) n r = inr (n, r)
    begins Clearing n r = inr (n, r)
    begins (Retiring i) n r = inr (n, r)
    begins Voiding n r = inr (n, r)
refused_before l v (StopSeen set) n r = inr (n, r)
refused_before l v SetStop n r = inr (n, r)
refused_before l v (Tell operation reply) n r = inr (n, r)

-- ---- A STEP OF LANE k THAT DRAWS NO NUMBER
module _ (o : Opening) (views new : Views) (g : Past) (k : ℕ) (s : Step)
    (t : Turn views new k (after (views k) s))
    (decided runs : ℕ → Bool) (geo : Geometry) (holder : Block → ℕ) where
  abbrev h : Past
  h = with_others g decided runs geo holder

  more : (f : List Claim → ℕ) → Rising f → (j : ℕ) → f (views j).claims ≤ f (new j).claims
  more f r j = ⊎_elim
      (λ (q : j ≡ k). subst (λ i. f (views i).claims ≤ f (new i).claims) (sym q)
      (subst (λ v. f (views k).claims ≤ f v.claims) (sym t.here) (grows f r (views k) s)))
      (λ (ne : j ≢ k). subst (λ v. f (views j).claims ≤ f v.claims) (sym (t.else_ j ne))
      (omega arith)) (cases_eq j k)

  counts_on : (f : List Claim → ℕ) (lane n : ℕ) (v w : View) → f v.claims ≤ f w.claims
      → CountsNew f g lane n v → CountsNew f h lane n w
  counts_on f lane n v w le c = let a = c.some in record {
    some = omega arith;
    since = λ p l e. let b = c.since p l e in omega arith;
  }

  overlaps_on : (lane c other d : ℕ) → Overlaps g lane c other d → Overlaps h lane c other d
  overlaps_on lane c other d w = record { before = w.before; after_ = w.after_ }

  pub busy_on : (lane n l : ℕ) → BusyCause o views g lane n l → BusyCause o new h lane n l
  busy_on lane n l c = ⊎_elim
      (λ (q : (c.call < g.length) × (drawn_by g c.call ≡ c.other) × (c.view ≡ g.drew c.call)).
      record {
        other = c.other;
        call = c.call;
        view = c.view;
        apart = c.apart;
        runs = c.runs;
        is = inl q;
        had = ⊎_elim (λ (y : CountsNew (times_locked l) g c.other c.call c.view).
            inl (counts_on (times_locked l) c.other c.call c.view c.view (omega arith) y))
            (λ (y : (c.call < g.length) × (holds c.view.claims l ≡ true)). inr y) c.had;
        overlaps = overlaps_on lane n c.other c.call c.overlaps;
      })
      (λ (q : (c.call ≡ g.length) × (c.view ≡ views c.other)). record {
        other = c.other;
        call = c.call;
        view = new c.other;
        apart = c.apart;
        runs = c.runs;
        is = inr (q.0, refl);
        had = ⊎_elim (λ (y : CountsNew (times_locked l) g c.other c.call c.view).
            inl (counts_on (times_locked l) c.other c.call c.view (new c.other)
            (subst (λ v. times_locked l v.claims ≤ times_locked l (new c.other).claims) (sym q.1)
            (more (times_locked l) (rising_locked l) c.other)) y))
            (λ (y : (c.call < g.length) × (holds c.view.claims l ≡ true)). absurd (let a = q.0 in
            let b = y.0 in omega arith)) c.had;
        overlaps = overlaps_on lane n c.other c.call c.overlaps;
      }) c.is

  -- what each lane holds and counts
  module _ (ink : k < o.lanes) (x : LanesCount o views g) (reading : (m : ℕ) (won : Bool)
      → s ≡ Raise m won → reads (views k).claims m ≡ true) where
    held_since : (j l n : ℕ) → HeldSince g j l n → HeldSince h j l n
    held_since j l n y = record { entry = y.entry; of = y.of; last = y.last; held = y.held }

    held_on : (j l : ℕ) (v : View) → times_locked l (views j).claims ≤ times_locked l v.claims
        → CountsNew (times_locked l) g j g.length (views j) ⊎ ((n : ℕ) × HeldSince g j l n)
        → CountsNew (times_locked l) h j g.length v ⊎ ((n : ℕ) × HeldSince h j l n)
    held_on j l v le y = ⊎_elim (λ (c : CountsNew (times_locked l) g j g.length (views j)).
        inl (counts_on (times_locked l) j g.length (views j) v le c))
        (λ (c : (n : ℕ) × HeldSince g j l n). inr (c.0, held_since j l c.0 c.1)) y

    -- a lock that was taken now
    taken_now : (l : ℕ) (v : View) → times_locked l (views k).claims < times_locked l v.claims
        → CountsNew (times_locked l) h k g.length v
    taken_now l v lt = record {
      some = omega arith;
      since = λ p a e. let b = x.locked k p l a e in
          omega arith;
    }

    pub counts_kept : LanesCount o new h
    counts_kept = record {
      held = λ j l inj e. ⊎_elim
          (λ (q : j ≡ k). subst
          (λ i. CountsNew (times_locked l) h i g.length (new i) ⊎
          ((n : ℕ) × HeldSince h i l n)) (sym q)
          (own_held l (subst
          (λ v. holds v.claims l ≡ true) t.here (subst
          (λ i. holds (new i).claims l ≡ true) q e))))
          (λ (ne : j ≢ k). held_on j l (new j) (more (times_locked l) (rising_locked l) j)
          (x.held j l inj (subst (λ v. holds v.claims l ≡ true) (t.else_ j ne) e)))
          (cases_eq j k);
      locked = λ j p l a e. let b = x.locked j p l a e in
          let c = more (times_locked l) (rising_locked l) j in omega arith;
      missed = λ j p B a e. let b = x.missed j p B a e in
          let c = more (times_missed o.shape B) (rising_missed o.shape B) j in omega arith;
    }
      where
        own_held : (l : ℕ) → holds (after (views k) s).claims l ≡ true
            → CountsNew (times_locked l) h k g.length (new k) ⊎ ((n : ℕ) × HeldSince h k l n)
        own_held l e = let u = held_before l (views k) s reading in ⊎_elim
            (λ (y : holds (views k).claims l ≡ true).
            held_on k l (new k) (more (times_locked l) (rising_locked l) k) (x.held k l ink y))
            (λ (y : times_locked l (views k).claims < times_locked l (after (views k) s).claims).
            inl (taken_now l (new k) (subst
            (λ v. times_locked l (views k).claims < times_locked l v.claims) (sym t.here) y)))
            (u.1 e)

  -- ---- a refused try of this step has its cause: the lane that holds the lock
  module _ (old mem : Memory) (ink : k < o.lanes) (x : World o old views g)
      (law : IsLawful (views k) s) (moves : Moves k s old mem) (b : BusyHasCause o views g)
      (c : LanesCount o views g) where
    refused_now : (l : ℕ) → is_refused l s ≡ true → BusyCause o views g k g.length l
    refused_now l e = let y = refusal_shows_lock o old mem views g k s l x ink law moves e in
        by y.0 y.1 y.2 y.3
      where
        by : (j : ℕ) → j ≢ k → j < o.lanes → holds (views j).claims l ≡ true
            → BusyCause o views g k g.length l
        by j ne inj held = ⊎_elim
            (λ (r : CountsNew (times_locked l) g j g.length (views j)). record {
              other = j;
              call = g.length;
              view = views j;
              apart = ne;
              runs = inj;
              is = inr (refl, refl);
              had = inl r;
              overlaps = record {
                before = λ p a e. a;
                after_ = λ p q a b e f i.
                    absurd (omega arith);
              };
            })
            (λ (r : (n : ℕ) × HeldSince g j l n). let y = r.1 in record {
              other = j;
              call = r.0;
              view = g.drew r.0;
              apart = ne;
              runs = inj;
              is = inl (y.entry, y.of, refl);
              had = inr (y.entry, y.held);
              overlaps = record {
                before = λ p a e. let z = y.entry in
                    omega arith;
                after_ = λ p q a b e f i. absurd (y.last p a b e);
              };
            }) (c.held j l inj held)

    pub busy_kept : BusyHasCause o new h
    busy_kept = record {
      drawn = λ n l a e. busy_on (drawn_by g n) n l (b.drawn n l a e);
      open_ = λ j l inj n r. busy_on j g.length l (⊎_elim
          (λ (q : j ≡ k). subst (λ i. BusyCause o views g i g.length l) (sym q)
          (own l (subst (λ (v : View). v.number ≡ None) t.here (subst
          (λ i. (new i).number ≡ None) q n))
          (subst (λ (v : View). was_refused l v.seen ≡ true) t.here (subst
          (λ i. was_refused l (new i).seen ≡ true) q r))))
          (λ (ne : j ≢ k). b.open_ j l inj (subst (λ (v : View). v.number ≡ None) (t.else_ j ne) n)
          (subst (λ (v : View). was_refused l v.seen ≡ true) (t.else_ j ne) r))
          (cases_eq j k));
    }
      where
        own : (l : ℕ) → (after (views k) s).number ≡ None
            → was_refused l (after (views k) s).seen ≡ true → BusyCause o views g k g.length l
        own l n r = ⊎_elim (λ (q : is_refused l s ≡ true). refused_now l q)
            (λ (q : ((views k).number ≡ None) × (was_refused l (views k).seen ≡ true)).
            b.open_ k l ink q.0 q.1) (refused_before l (views k) s n r)

-- ---- LANE k TAKES A NUMBER
module _ (o : Opening) (views new : Views) (g : Past) (k : ℕ) (ink : k < o.lanes) (number : ℕ)
    (t : Turn views new k (after (views k) (Draw number)))
    (lane_is : (views k).fixed.lane ≡ k) where
  abbrev drawn : Past
  drawn = past_drawn g (views k)

  pub drew_old : (p : ℕ) → p < g.length → drawn.drew p ≡ g.drew p
  drew_old p a = put1_else g.drew g.length (views k) p (λ q. omega arith)

  pub drew_new : drawn.drew g.length ≡ views k
  drew_new = put1_here g.drew g.length (views k)

  pub by_old : (p : ℕ) → p < g.length → drawn_by drawn p ≡ drawn_by g p
  by_old p a = ap (λ (v : View). v.fixed.lane) (drew_old p a)

  pub by_new : drawn_by drawn g.length ≡ k
  by_new = ap (λ (v : View). v.fixed.lane) drew_new ∙ lane_is

  -- a call keeps its place: it is an entry, or comes to be one; or it has no number yet, and is
  -- another lane's
  abbrev pub Moved : ℕ → ℕ → ℕ → Type 0
  Moved lane n n' = ((n' ≡ n) × (n ≤ g.length)) ⊎
      ((n ≡ g.length) × (n' ≡ suc g.length) × (lane ≢ k))

  pub later : (j : ℕ) → j ≢ k → Moved j g.length (suc g.length)
  later j ne = inr (refl, refl, ne)

  pub stays : (j n : ℕ) → n ≤ g.length → Moved j n n
  stays j n a = inl (refl, a)

  pub no_later : (lane n n' : ℕ) → Moved lane n n' → (n ≤ n') × (n ≤ g.length)
  no_later lane n n' m = ⊎_elim (λ (q : (n' ≡ n) × (n ≤ g.length)). let a = q.0 in let b = q.1 in
      (omega arith, b))
      (λ (q : (n ≡ g.length) × (n' ≡ suc g.length) × (lane ≢ k)). let a = q.0 in let b = q.1 in
      (omega arith, omega arith)) m

  -- the entries of its lane before it are the same
  pub before : (lane n n' : ℕ) → Moved lane n n' → (p : ℕ) → p < n' → drawn_by drawn p ≡ lane
      → (p < n) × (p < g.length) × (drawn_by g p ≡ lane)
  before lane n n' m p a e = ⊎_elim
      (λ (q : (n' ≡ n) × (n ≤ g.length)). let b = q.0 in let c = q.1 in
      let l : p < g.length = omega arith in (omega arith, l, sym (by_old p l) ∙ e))
      (λ (q : (n ≡ g.length) × (n' ≡ suc g.length) × (lane ≢ k)). let b = q.0 in let c = q.1 in
      ⊎_elim
      (λ (r : p ≡ g.length). absurd (q.2 (sym (subst (λ i. drawn_by drawn i ≡ lane) r e)
      ∙ by_new)))
      (λ (r : p ≢ g.length). let l : p < g.length = omega arith in
      (omega arith, l, sym (by_old p l) ∙ e)) (cases_eq p g.length)) m

  counts_moved : (f : List Claim → ℕ) (lane n n' : ℕ) (v : View) → Moved lane n n'
      → CountsNew f g lane n v → CountsNew f drawn lane n' v
  counts_moved f lane n n' v m c = record {
    some = c.some;
    since = λ p a e. let q = before lane n n' m p a e in
        subst (λ (w : View). f w.claims < f v.claims) (sym (drew_old p q.1)) (c.since p q.0 q.2);
  }

  overlaps_moved : (lane c c' other d d' : ℕ) → Moved lane c c' → Moved other d d'
      → Overlaps g lane c other d → Overlaps drawn lane c' other d'
  overlaps_moved lane c c' other d d' m n w = let cs = no_later lane c c' m in
      let ds = no_later other d d' n in record {
        before = λ p a e. let q = before other d d' n p a e in let b = w.before p q.0 q.2 in
            let z = cs.0 in omega arith;
        after_ = λ p q a b e r f. let y = before lane c c' m q r f in let z = cs.1 in
            let i = ds.0 in
            ⊎_elim
            (λ (s : p ≡ g.length). let u = y.0 in omega arith)
            (λ (s : p ≢ g.length). let l : p < g.length = omega arith in
            w.after_ p q (omega arith) l (sym (by_old p l) ∙ e) y.0 y.2) (cases_eq p g.length);
      }

  pub same_view : (j : ℕ) → j ≢ k → new j ≡ views j
  same_view j ne = t.else_ j ne

  busy_moved : (lane n n' l : ℕ) → Moved lane n n' → BusyCause o views g lane n l
      → BusyCause o new drawn lane n' l
  busy_moved lane n n' l m c = ⊎_elim
      (λ (q : (c.call < g.length) × (drawn_by g c.call ≡ c.other) × (c.view ≡ g.drew c.call)).
      let a = q.0 in
      made c.call c.view (stays c.other c.call (omega arith)) (inl (
        omega arith,
        by_old c.call a
            ∙ q.1,
        q.2 ∙ sym (drew_old c.call a),
      ))
      (⊎_elim (λ (y : CountsNew (times_locked l) g c.other c.call c.view).
      inl (counts_moved (times_locked l) c.other c.call c.call c.view
      (stays c.other c.call (omega arith)) y))
      (λ (y : (c.call < g.length) × (holds c.view.claims l ≡ true)).
      inr (omega arith, y.1)) c.had))
      (λ (q : (c.call ≡ g.length) × (c.view ≡ views c.other)). let a = q.0 in ⊎_elim
      (λ (r : c.other ≡ k). let z : Moved c.other c.call c.call =
      stays c.other c.call (omega arith) in
      made c.call c.view z
      (inl (
        omega arith,
        subst (λ i. drawn_by drawn i ≡ c.other) (sym a) (by_new ∙ sym r),
        q.1
            ∙ (ap views r ∙ (sym drew_new ∙ ap drawn.drew (sym a))),
      ))
      (inl (counts_moved (times_locked l) c.other c.call c.call c.view z (counted q.0))))
      (λ (r : c.other ≢ k). let z : Moved c.other c.call (suc g.length) = inr (a, refl, r) in
      made (suc g.length) c.view z (inr (refl, q.1 ∙ sym (same_view c.other r)))
      (inl (counts_moved (times_locked l) c.other c.call (suc g.length) c.view z (counted q.0))))
      (cases_eq c.other k)) c.is
    where
      counted : c.call ≡ g.length → CountsNew (times_locked l) g c.other c.call c.view
      counted a = ⊎_elim (λ (y : CountsNew (times_locked l) g c.other c.call c.view). y)
          (λ (y : (c.call < g.length) × (holds c.view.claims l ≡ true)). absurd (let b = y.0 in
          omega arith)) c.had

      made : (d : ℕ) (v : View) → Moved c.other c.call d → IsCall new drawn c.other d v
          → HadLock drawn c.other d v l → BusyCause o new drawn lane n' l
      made d v z is had = record {
        other = c.other;
        call = d;
        view = v;
        apart = c.apart;
        runs = c.runs;
        is = is;
        had = had;
        overlaps = overlaps_moved lane n n' c.other c.call d m z c.overlaps;
      }

  pub busy_drawn : (views k).number ≡ None → BusyHasCause o views g → BusyHasCause o new drawn
  busy_drawn first b = record {
    drawn = λ n l a e. ⊎_elim
        (λ (q : n ≡ g.length). subst (λ i. BusyCause o new drawn (drawn_by drawn i) i l) (sym q)
        (subst (λ i. BusyCause o new drawn i g.length l) (sym by_new)
        (busy_moved k g.length g.length l (stays k g.length (omega arith)) (b.open_ k l ink first
        (subst (λ (v : View). was_refused l v.seen ≡ true) drew_new (subst
        (λ i. was_refused l (drawn.drew i).seen ≡ true) q e))))))
        (λ (ne : n ≢ g.length). let z : n < g.length = omega arith in
        subst (λ i. BusyCause o new drawn i n l) (sym (by_old n z))
        (busy_moved (drawn_by g n) n n l (stays (drawn_by g n) n (omega arith)) (b.drawn n l z
        (subst (λ (v : View). was_refused l v.seen ≡ true) (drew_old n z) e))))
        (cases_eq n g.length);
    open_ = λ j l inj n r. ⊎_elim
        (λ (q : j ≡ k).
        absurd (none-some (suc number)
        (sym (subst (λ (v : View). v.number ≡ None) t.here (subst
        (λ i. (new i).number ≡ None) q n)))))
        (λ (ne : j ≢ k). busy_moved j g.length (suc g.length) l (later j ne) (b.open_ j l inj
        (subst (λ (v : View). v.number ≡ None) (same_view j ne) n) (subst
        (λ (v : View). was_refused l v.seen ≡ true) (same_view j ne) r))) (cases_eq j k);
  }

  pub claims_same : (j : ℕ) → (new j).claims ≡ (views j).claims
  claims_same j = ⊎_elim (λ (q : j ≡ k). ap (λ i. (new i).claims) q
      ∙ (ap (λ (v : View). v.claims) t.here ∙ ap (λ i. (views i).claims) (sym q)))
      (λ (ne : j ≢ k). ap (λ (v : View). v.claims) (same_view j ne)) (cases_eq j k)

  pub counts_drawn : LanesCount o views g → LanesCount o new drawn
  counts_drawn c = record {
    held = λ j l inj e. ⊎_elim
        (λ (q : j ≡ k). inr (
          g.length,
          record {
            entry = omega arith;
            of = by_new ∙ sym q;
            last = λ p a b. absurd (omega arith);
            held = subst (λ (v : View). holds v.claims l ≡ true) (sym drew_new) (subst
                (λ i. holds (views i).claims l ≡ true) q (was j l e));
          },
        ))
        (λ (ne : j ≢ k). ⊎_elim
        (λ (y : CountsNew (times_locked l) g j g.length (views j)).
        inl (subst (CountsNew (times_locked l) drawn j (suc g.length)) (sym (same_view j ne))
        (counts_moved (times_locked l) j g.length (suc g.length) (views j) (later j ne) y)))
        (λ (y : (n : ℕ) × HeldSince g j l n). inr (y.0, held_since j l y.0 ne y.1))
        (c.held j l inj (was j l e))) (cases_eq j k);
    locked = λ j p l a e. counted (times_locked l) j p (λ b f. c.locked j p l b f) a e;
    missed = λ j p B a e. counted (times_missed o.shape B) j p (λ b f. c.missed j p B b f) a e;
  }
    where
      was : (j l : ℕ) → holds (new j).claims l ≡ true → holds (views j).claims l ≡ true
      was j l e = subst (λ u. holds u l ≡ true) (claims_same j) e

      held_since : (j l n : ℕ) → j ≢ k → HeldSince g j l n → HeldSince drawn j l n
      held_since j l n ne y = let z = y.entry in record {
        entry = omega arith;
        of = by_old n z ∙ y.of;
        last = λ p a b e. ⊎_elim
            (λ (q : p ≡ g.length). ne (sym (subst (λ i. drawn_by drawn i ≡ j) q e) ∙ by_new))
            (λ (q : p ≢ g.length). let w : p < g.length = omega arith in
            y.last p a w (sym (by_old p w) ∙ e)) (cases_eq p g.length);
        held = subst (λ (v : View). holds v.claims l ≡ true) (sym (drew_old n z)) y.held;
      }

      counted : (f : List Claim → ℕ) (j p : ℕ)
          → (p < g.length → drawn_by g p ≡ j → f (g.drew p).claims ≤ f (views j).claims)
          → p < suc g.length → drawn_by drawn p ≡ j → f (drawn.drew p).claims ≤ f (new j).claims
      counted f j p u a e = subst (λ z. f (drawn.drew p).claims ≤ f z) (sym (claims_same j))
          (⊎_elim
          (λ (q : p ≡ g.length). let i : k ≡ j = sym by_new
          ∙ subst (λ n. drawn_by drawn n ≡ j) q e in
          let w : drawn.drew p ≡ views j = ap drawn.drew q ∙ (drew_new ∙ ap views i) in
          subst (λ (v : View). f v.claims ≤ f (views j).claims) (sym w) (omega arith))
          (λ (q : p ≢ g.length). let z : p < g.length = omega arith in
          subst (λ (v : View). f v.claims ≤ f (views j).claims) (sym (drew_old p z))
          (u z (sym (by_old p z) ∙ e))) (cases_eq p g.length))
