-- A LOOK AT THE ROOT'S ID: a lane between two calls is so again once it knows the root word and gave
-- the lock of line 0 back; what the look does, by what opening its call and waiting for the lock came
-- to; and the lane stands with its history then.
use Rattle.std.proofs.Common.{◌≡◌, ◌≢◌, ℕ, ◌+◌, ◌*◌, ◌≤◌, Bool, true, false, not, ◌==◌, ◌&&◌, ◌||◌, List, [], ◌∷◌, Some, None, refl, sym, ap, ◌∙◌, subst, arith, ne_eqb, inr, zero, suc, ◌<◌, ⊎_elim, ◌++◌, length, Result, Ok, Err}
use Rattle.std.proofs.lemmas.Bool.{and_parts, and_right, both_ways, cond-false, false_from_ne_true, or_right}
use Rattle.std.proofs.lemmas.List.Elements.{All-nil}
use Rattle.std.specs.List.{All}
use Rattle.pm_layout.specs.Areas.{word_of_generation, word_of_seal}
use Rattle.pm_layout.specs.Chunks.{word_of_root}
use Rattle.pm_layout.specs.declared.shape.Shape.{Shape}
use Rattle.pm_memory.specs.declared.lane_mem.Stopped.{Stopped}
use Rattle.pm_objects.specs.declared.ids.Oid.{Oid}
use Rattle.pm_objects.specs.declared.refusal.Refusal.{Refusal}
use Rattle.pm_objects.specs.declared.refusal.Refusal.TheVariants as refusal
use Rattle.pm_view.specs.Claims.{Claim, Gave, Knows, Took, found, header_in, holds, locked, reads}
use Rattle.pm_view.specs.Entries.{Entry}
use Rattle.pm_view.specs.Log.{is_early}
use Rattle.pm_view.specs.Places.{Block, Small, Big, Root, RootWord}
use Rattle.pm_view.specs.Steps.{Step}
use Rattle.pm_view.specs.Steps.Step.{Give, Load, NumberSeen}
use Rattle.pm_view.specs.View.{View}
use Rattle.pm_view.specs.Views.{after, after_all, value_in}
use Rattle.pm_world.specs.InWorld.{SizesFit, block_bytes}
use Rattle.pm_world.specs.LaneFields.{Standing, at_rest, moved, Fields, Rests, fields_of}
use Rattle.pm_world.specs.Lanes.{is_occupancy}
use Rattle.pm_world.specs.Lawful.{GiveFits, MayGive}
use Rattle.pm_world.specs.declared.lane.HeldLock.{HeldLock}
use Rattle.pm_world.specs.declared.lane.Lane.{Lane}
use Rattle.pm_crash.specs.Footprints.{has_found}
use Rattle.pm_lock.specs.Holding.{MayGiveAll}
use Rattle.pm_lock.specs.Locking.{GivenBack, lock_of}
use Rattle.pm_lock.specs.RootLock.{KnowsRootWord, MayLockRoot, RootLocked, RootLockedAs, root_seen}
use Rattle.pm_lock.specs.Steps.{gives, refusals, stops, waits}
use Rattle.pm_lock.proofs.RootWords.{knows_root_word}
use Rattle.pm_lock.proofs.Waiting.{once_more}
use Rattle.pm_call.specs.Between.{MayOpen, opened_with, IsLaneBetween, saw_number}
use Rattle.pm_call.specs.Held.{HoldsAll}
use Rattle.pm_call.specs.Histories.{LaneHistory}
use Rattle.pm_call.specs.Locking.{IsOpened}
use Rattle.pm_call.specs.Opening.{CallOpened, OpenedAs, WasOpened}
use Rattle.pm_call.specs.Stages.{IsBetween}
use Rattle.pm_call.specs.Standing.{HasHistory, Stands, StandsWith}
use Rattle.pm_call.specs.Waiting.{uncalled}
use Rattle.pm_call.specs.Quiet.{AreQuiet, WentQuietly}
use Rattle.pm_call.proofs.HasHistories.{has_stopped}
use Rattle.pm_call.proofs.Quiet.{quiet_by, quiet_one, quiet_then, stops_quiet}
use Rattle.pm_call.proofs.OpenedCalls.{saw_open}
use Rattle.pm_call.proofs.OpenedLanes.{rests_so}
use Rattle.pm_call.proofs.SilentPlans.{IsAsTold, silent_steps}
use Rattle.pm_call.proofs.Standing.{idle_stands, same_stands, spent_stands, stands_turned, stopped_stands}
use Rattle.pm_call.proofs.Staying.{has_pending}
use Rattle.pm_call.proofs.StoppedLanes.{stop_was_seen, stops_have}
use Rattle.pm_call.proofs.StoppedNumbers.{ends_untold}
use Rattle.pm_call.proofs.ToldLooks.{SaidNothing, nothing_history, saw_history, stops_silent, told_open}
use Rattle.pm_call.proofs.UnwrittenRests.{all_unwritten, stopped}
use Rattle.pm_root.specs.Root.{FieldsStay, FoundAs, FoundBy, KnowsRoot, RootFound, id_of, FoundOpenAs, looked}

-- ---- THE CLAIMS THEN

abbrev pub claims_then : Shape → ℕ → List Claim → List Claim
claims_then sh word t = Gave 0 ∷ Knows (word_of_root sh) word ∷ Took 0 false ∷ t

-- the root word is no block that a lane finds; so no block that it found begins at line 0
root_unfound : (sh : Shape) (t : List Claim) → found sh t Root ≡ false
root_unfound sh [] = refl
root_unfound sh (Gave m ∷ t) = and_right (not (m == 0)) (found sh t Root) (root_unfound sh t)
root_unfound sh (c ∷ t) = root_unfound sh t

pub off_line_0 : (sh : Shape) (t : List Claim) (B : Block) → found sh t B ≡ true → header_in sh t B ≢ 0
off_line_0 sh t (Small c i) e is = omega (arith, is)
off_line_0 sh t (Big f) e is = omega (arith, is)
off_line_0 sh t Root e is = both_ways (found sh t Root) (root_unfound sh t) e

module _ (s : Standing) (is : IsBetween s) (word : ℕ) where
  abbrev next : View
  next = record s.view { claims = claims_then s.view.fixed.shape word s.view.claims }

  found_before : (B : Block) → has_found next B ≡ true → has_found s.view B ≡ true
  found_before B e = (and_parts (not (0 == header_in s.view.fixed.shape s.view.claims B))
      (has_found s.view B) e).1

  value_then : (w : ℕ) → w ≢ 64 → value_in next w ≡ value_in s.view w
  value_then w other = cond-false (64 == w) (Some word) _ (ne_eqb 64 w (λ e. other (sym e)))
      ∙ cond-false (w == 64) None (value_in s.view w) (ne_eqb w 64 other)

  held_before : (line : ℕ) → holds next.claims line ≡ true → holds s.view.claims line ≡ true
  held_before line e = by (0 == line) (locked s.view.claims line) (reads s.view.claims line) e where
    by : (a l r : Bool)
        → ((not a && ((false && a) || l)) || (not a && ((not false && a) || r))) ≡ true
        → (l || r) ≡ true
    by true l r e = absurd (both_ways false refl e)
    by false l r e = e

  fits : (B : Block) (x : ℕ) → has_found next B ≡ true → is_occupancy s.view.fixed.shape B ≡ true
      → value_in next (8 * header_in s.view.fixed.shape s.view.claims B + 1) ≡ Some x
      → 64 + x ≤ block_bytes s.view B
  fits B x e o p = is.over.sizes B x (found_before B e) o
      (sym (value_then (8 * header_in s.view.fixed.shape s.view.claims B + 1)
      (λ q. omega (arith, q))) ∙ p)

  sizes : SizesFit next
  sizes (Small c i) = fits (Small c i)
  sizes (Big f) = fits (Big f)
  sizes Root = fits Root

  all_held : HoldsAll next []
  all_held = let h = subst (HoldsAll s.view) is.unlocked is.over.holds in record {
    each = record { once = tt; inside = tt; held = tt };
    only = λ line e. h.only line (held_before line e);
  }

  pub between_then : IsBetween (moved s next)
  between_then = record {
    over = record {
      log = is.over.log;
      drained = is.over.drained;
      lane = is.over.lane;
      lanes = is.over.lanes;
      zones = is.over.zones;
      unmaking = is.over.unmaking;
      sound = record {
        small = λ c i e. is.over.sound.small c i (found_before (Small c i) e);
        some = λ f e. is.over.sound.some f (found_before (Big f) e);
        zone = λ f e. is.over.sound.zone f (found_before (Big f) e);
        huge = λ f c e i. is.over.sound.huge f c (found_before (Big f) e) i;
      };
      sizes = sizes;
      known = value_then (word_of_generation s.view.fixed.shape s.view.fixed.lane)
          (λ q. omega (arith, q)) ∙ is.over.known;
      sealed = value_then (word_of_seal s.view.fixed.shape s.view.fixed.lane)
          (λ q. omega (arith, q)) ∙ is.over.sealed;
      holds = subst (HoldsAll next) (sym is.unlocked) all_held;
      own = is.over.own;
      pending = has_pending (uncalled s.view) (uncalled next) refl refl is.over.pending;
      facts = is.over.facts;
    };
    unlocked = is.unlocked;
    unlisted = is.unlisted;
  }

-- ---- SO THE LANE MAY OPEN A CALL AGAIN

module _ (o : Standing) (word : ℕ) (w : View) (knows : KnowsRootWord o.view false word w) where
  abbrev pub given : View
  given = record o.view { claims = claims_then o.view.fixed.shape word o.view.claims; seen = w.seen }

  pub given_is : after w (Give 0) ≡ given
  given_is = ap (λ (y : View). after y (Give 0)) knows.same

  pub rests_given : at_rest (moved o (after w (Give 0))) ≡ at_rest o
  rests_given = ap (λ (y : View). at_rest (moved o y)) given_is

  pub may_open_then : (before : Standing) → IsBetween before → (seen : List Step)
      → o ≡ opened_with before seen → MayOpen (moved o (after w (Give 0)))
  may_open_then before is seen opened = record {
    before = moved before (next before is word);
    between = between_then before is word;
    since = inr (
      w.seen,
      ap (moved o) given_is ∙ ap (λ (u : Standing). moved u (record u.view {
        claims = claims_then u.view.fixed.shape word u.view.claims;
        seen = w.seen;
      })) opened,
    );
  }

-- ---- THE LOCK OF LINE 0, in an open call in which nothing is done

pub may_lock_root : (s : Standing) → IsOpened s → MayLockRoot s.view
may_lock_root s o = record {
  take = record {
    inside = omega arith;
    free = false_from_ne_true (holds s.view.claims 0) (λ e. both_ways false refl (o.holds.only 0 e));
    early = ap is_early o.working.is_open;
  };
  lane = o.working.lane;
}

module _ (s : Standing) (o : IsOpened s) (word : ℕ) (w : View) (knows : KnowsRootWord s.view false word w)
  where
    abbrev under : View
    under = record s.view {
      claims = Knows (word_of_root s.view.fixed.shape) word ∷ Took 0 false ∷ s.view.claims;
      seen = w.seen;
    }

    held : holds under.claims 0 ≡ true
    held = or_right (locked s.view.claims 0) true refl

    give_under : MayGive under 0
    give_under = record {
      inside = omega arith;
      held = held;
      fits = subst (GiveFits under 0) (sym o.working.is_open) (
        off_line_0 s.view.fixed.shape under.claims,
        subst (All (λ (e : Entry). e.place ≡ Some RootWord → ⊥)) (sym o.working.unentered)
            (All-nil (λ (e : Entry). e.place ≡ Some RootWord → ⊥)),
      );
    }

    pub gives_line : MayGiveAll w (lock_of 0 false ∷ [])
    gives_line = subst (λ (y : View). MayGiveAll y (lock_of 0 false ∷ [])) (sym knows.same)
        (record { once = (tt, tt); each = (give_under, tt) })

    pub knows_root : KnowsRoot w word
    knows_root = subst (λ (y : View). KnowsRoot y word) (sym knows.same) (record {
      early = ap is_early o.working.is_open;
      holds_line = held;
      value = refl;
    })

-- ---- WITHOUT A CALL

module _ {M : Type 0} (at : M → View → Type 0) (old : Lane M) where
  pub had_stopped : old.stopped ≡ true → RootFound at old old (Err refusal.Stopped)
  unfolding RootFound
  had_stopped e = subst (λ b. FoundBy b old.level at old old (Err refusal.Stopped)) (sym e)
      (refl, refl)

  pub in_transaction : old.stopped ≡ false → 0 < old.level → RootFound at old old (Err refusal.InTx)
  unfolding RootFound
  in_transaction e low = subst (λ b. FoundBy b old.level at old old (Err refusal.InTx)) (sym e)
      (by old.level low)
    where
      by : (n : ℕ) → 0 < n → FoundBy false n at old old (Err refusal.InTx)
      by zero low = absurd (omega (arith, low))
      by (suc n) low = (refl, refl)

  module _ (running : old.stopped ≡ false) (outside : old.level ≡ 0) where
    here : (new : Lane M) (result : Result Oid Refusal) → FoundBy false zero at old new result
        → RootFound at old new result
    unfolding RootFound
    here new result p = subst (λ b. FoundBy b old.level at old new result) (sym running)
        (subst (λ n. FoundBy false n at old new result) (sym outside) p)

    pub unopened : (new : Lane M) (why : Refusal) (result : Result Oid Refusal) → result ≡ Err why
        → CallOpened at old new (Err why) → RootFound at old new result
    unfolding CallOpened
    unopened new why result is opened =
        subst (RootFound at old new) (sym is) (here new (Err why) (by why opened))
      where
        by : (r : Refusal)
            → ((s : Standing) → Rests at old s → MayOpen s → OpenedAs at new (Err r) s)
            → FoundBy false zero at old new (Err r)
        by refusal.Spent opens s rests may = opens s rests may
        by r opens s rests may = absurd (opens s rests may)

    -- ---- IN THE CALL

    module _ (mid : Lane M) (opened : CallOpened at old mid (Ok tt)) where
      open_at : (s : Standing) → Rests at old s → MayOpen s → WasOpened at mid s
      unfolding CallOpened
      open_at s rests may = opened s rests may

      module _ (s : Standing) (rests : Rests at old s) (may : MayOpen s) where
        abbrev w : WasOpened at mid s
        w = open_at s rests may

        abbrev t : Standing
        t = saw_number s w.number

        no_locks : mid.locks.items ≡ []
        no_locks = ap (λ (f : Fields). f.locks) w.rests.fields ∙ w.opened.locks

        locked_at : (got : Lane M) (result : Result ℕ Stopped) → RootLocked at false mid got result
            → RootLockedAs at false t.view mid got result
        unfolding RootLocked
        locked_at got result locks = locks t.view w.rests.memory (may_lock_root t w.opened)

        -- the lock was got, and is given back
        module _ (got : Lane M) (word : ℕ) (locks : RootLocked at false mid got (Ok word)) where
          abbrev l : RootLockedAs at false t.view mid got (Ok word)
          l = locked_at got (Ok word) locks

          abbrev u : View
          u = root_seen t.view l.0.0 false word

          one_lock : got.locks.items ≡ lock_of 0 false ∷ []
          one_lock = l.1.1 ∙ ap (λ (ls : List HeldLock). ls ++ lock_of 0 false ∷ []) no_locks

          may_at : MayGiveAll u got.locks.items
          may_at = subst (MayGiveAll u) (sym one_lock) (gives_line t w.opened word u l.0.2)

          module _ (last : Lane M) (gave : GivenBack at got last) where
            gave_at : at last.memory (after_all u (gives got.locks.items))
                × (last ≡ record got { memory = last.memory; locks = last.locks })
                × (last.locks.items ≡ [])
            unfolding GivenBack
            gave_at = gave u l.0.1 may_at

            fields_at : fields_of last ≡ at_rest t
            fields_at =
                let none : last.locks.items ≡ t.locks = gave_at.2 ∙ sym w.opened.locks in
                ap (λ (y : Lane M). fields_of y) (gave_at.1
                ∙ ap (λ (y : Lane M). record y { memory = last.memory; locks = last.locks }) l.1.0)
                ∙ (λ i. record (w.rests.fields i) { locks = none i })

            memory_at : at last.memory (after u (Give 0))
            memory_at = subst (at last.memory) (once_more u (Give 0))
                (subst (λ (ls : List HeldLock). at last.memory (after_all u (gives ls))) one_lock
                gave_at.0)

            found_at : (id : Oid) → id ≡ id_of last.pool word → FoundAs at last (Ok id) s
            found_at id is =
                let o = saw_open s w.number may in record {
                  number = w.number;
                  opened = w.opened;
                  holds = (
                    word,
                    is ∙ ap (λ (f : Fields). id_of f.pool word) fields_at,
                    record {
                      tries = l.0.0;
                      memory = got.memory;
                      seen = l.0.1;
                      knows = knows_root t w.opened word u l.0.2;
                      rests = record {
                        memory = memory_at;
                        fields = fields_at ∙ sym (rests_given t word u l.0.2);
                      };
                      may = may_open_then t word u l.0.2 may.before may.between
                          (NumberSeen w.number ∷ o.0) o.1;
                    },
                  );
                }

        -- or the lane stopped in its wait
        awaited_at : (got : Lane M) (stopped : Stopped) → RootLocked at false mid got (Err stopped)
            → FoundAs at (record got { stopped = true }) (Err refusal.Stopped) s
        awaited_at got stopped locks =
            let l = locked_at got (Err stopped) locks in record {
              number = w.number;
              opened = w.opened;
              holds = record {
                refused = l.0.0;
                memory = l.0.1;
                found = l.0.2;
                fields = ap (λ (y : Lane M). record (fields_of y) { stopped = true }) l.1
                    ∙ ap (λ (f : Fields). record f { stopped = true }) w.rests.fields;
              };
            }

      pub may_lock : IsLaneBetween at old
          → (length mid.locks.items < 64) × ((v : View) × at mid.memory v × MayLockRoot v)
      may_lock b =
          let o = open_at b.standing b.rests b.between in
          let t = saw_number b.standing o.number in (
            subst (λ (ls : List HeldLock). length ls < 64)
                (sym (no_locks b.standing b.rests b.between)) (omega arith),
            (t.view, o.rests.memory, may_lock_root t o.opened),
          )

      module _ (got : Lane M) where
        module _ (word : ℕ) (locks : RootLocked at false mid got (Ok word)) where
          pub may_give : IsLaneBetween at old
              → (v : View) × at got.memory v × MayGiveAll v got.locks.items
          may_give b =
              let l = locked_at b.standing b.rests b.between got (Ok word) locks in (
                _,
                l.0.1,
                may_at b.standing b.rests b.between got word locks,
              )

          pub found_root : (last : Lane M) → GivenBack at got last → (id : Oid)
              → id ≡ id_of last.pool word → RootFound at old last (Ok id)
          found_root last gave id is = here last (Ok id) (λ s rests may.
              found_at s rests may got word locks last gave id is)

        pub awaited : (stopped : Stopped) (last : Lane M) (answer : Refusal)
            → RootLocked at false mid got (Err stopped) → answer ≡ refusal.Stopped
            → last ≡ record got { stopped = true } → RootFound at old last (Err answer)
        awaited stopped last answer locks is same = subst
            (λ (r : Refusal). RootFound at old last (Err r)) (sym is)
            (subst (λ (y : Lane M). RootFound at old y (Err refusal.Stopped)) (sym same)
            (here (record got { stopped = true }) (Err refusal.Stopped)
            (λ s rests may. awaited_at s rests may got stopped locks)))

-- ---- THE FIELDS STAY, by what was found

module _ {M : Type 0} (at : M → View → Type 0) (old new : Lane M) where
  stays_open : (s : Standing) → Rests at old s → MayOpen s → (result : Result Oid Refusal)
      → FoundAs at new result s → FieldsStay old new result
  stays_open s rests may (Err refusal.Spent) none = ⊎_elim
      (λ z. z.1.fields ∙ sym rests.fields)
      (λ z. z.2.fields ∙ (rests_so s may z.0 ∙ sym rests.fields))
      none
  stays_open s rests may (Err refusal.Stopped) a = a.holds.fields
      ∙ ap (λ (f : Fields). record f { stopped = true }) (rests_so s may a.number ∙ sym rests.fields)
  stays_open s rests may (Ok id) a =
      let t = saw_number s a.number in
      let word : ℕ = a.holds.0 in
      let tries : ℕ = a.holds.2.tries in
      let knows = knows_root_word t.view false word (may_lock_root t a.opened) tries in
      a.holds.2.rests.fields ∙ (rests_given t word (root_seen t.view tries false word) knows
      ∙ (rests_so s may a.number ∙ sym rests.fields))
  stays_open s rests may (Err r) a = absurd a.holds

  pub stays : (result : Result Oid Refusal) → RootFound at old new result
      → (old.stopped ≡ false → old.level ≡ 0 → IsLaneBetween at old) → FieldsStay old new result
  unfolding RootFound
  stays result found between = by old.stopped old.level refl refl found where
    by : (stopped : Bool) (level : ℕ) → old.stopped ≡ stopped → old.level ≡ level
        → FoundBy stopped level at old new result → FieldsStay old new result
    by true level is some f = subst (FieldsStay old new) (sym f.0) (ap (λ (y : Lane M). fields_of y) f.1
        ∙ (λ i. record (fields_of old) { stopped = is i }))
    by false (suc n) is some f = subst (FieldsStay old new) (sym f.0) (ap (λ (y : Lane M). fields_of y) f.1)
    by false zero is none f = let lane = between is none in
        stays_open lane.standing lane.rests lane.between result
        (f lane.standing lane.rests lane.between)

-- the look tells nothing
wait_quiet : (n : ℕ) → AreQuiet (waits n 0 false)
unfolding waits refusals
wait_quiet zero = (refl, tt)
wait_quiet (suc n) = (refl, (refl, wait_quiet n))

look_quiet : (v : View) (tries word : ℕ)
    → WentQuietly v (after (root_seen v tries false word) (Give 0))
look_quiet v tries word =
    let u : View = after_all v (waits tries 0 false) in
    let w : View = root_seen v tries false word in
    quiet_then v w (after w (Give 0))
    (quiet_then v u w (quiet_by v (waits tries 0 false) (wait_quiet tries))
    (quiet_one u (Load (word_of_root v.fixed.shape) word) refl))
    (quiet_one w (Give 0) refl)

looked_told : (s : Standing) → IsOpened s → (tries word : ℕ)
    → SaidNothing s.view (looked s tries word).view
looked_told s is tries word =
    let knows = knows_root_word s.view false word (may_lock_root s is) tries in
    record {
      told = subst (IsAsTold s.view) (sym (given_is s word (root_seen s.view tries false word) knows))
          (record { call = refl; entries = refl; number = refl; fixed = refl });
      went = look_quiet s.view tries word;
    }

module _ {M : Type 0} (at : M → View → Type 0) (old new : Lane M) (h : LaneHistory) where
  open_turns : (s : Standing) → IsOpened s → s.level ≡ 0 → HasHistory s.view h → h.call ≡ []
      → (result : Result Oid Refusal) → FoundOpenAs at new result s → StandsWith at new h
  open_turns s is outside same none (Ok id) f =
      let t : Standing = looked s f.2.tries f.0 in
      idle_stands at new h t outside f.2.rests f.2.may
      (nothing_history s.view t.view h (looked_told s is f.2.tries f.0) same) none
  open_turns s is outside same none (Err refusal.Stopped) f =
      let w : View = after_all s.view (stops f.refused 0 false) in
      let told : IsAsTold s.view w =
      silent_steps s.view (stops f.refused 0 false) (stops_silent f.refused 0 false) in
      let history : HasHistory w h = nothing_history s.view w h (record {
        told = told;
        went = quiet_by s.view (stops f.refused 0 false) (stops_quiet f.refused 0 false);
      }) same in
      stopped_stands at new h (ap (λ (x : Fields). x.stopped) f.fields)
      (record {
        view = w;
        seen = f.memory;
        facts = stops_have s.view f.refused 0 false is.facts;
        due = λ e. inr (stop_was_seen s.view f.refused 0 false);
      })
      (ap (λ (x : LaneHistory). x.done) history.is) (ap (λ (x : LaneHistory). x.lane) history.is)
      (ends_untold new.drawn w (ap (λ (x : Fields). x.drawn) f.fields)
      (told_open s.view w told is.number.none))
      (λ _. all_unwritten s.view is.working (stops f.refused 0 false)
      (stopped s.view.fixed.shape s.view.fixed.lane f.refused 0 false))
      (has_stopped w h history)
  open_turns s is outside same none (Err r) f = absurd f

  found_turns : (s : Standing) → s.level ≡ 0 → MayOpen s → HasHistory s.view h → h.call ≡ []
      → (result : Result Oid Refusal) → FoundAs at new result s → StandsWith at new h
  found_turns s outside may same none (Err refusal.Spent) f =
      spent_stands at new h s outside may f same none
  found_turns s outside may same none result f =
      open_turns (saw_number s f.number) f.opened outside (saw_history s f.number h same none) none
      result f.holds

  pub root_found_turns : (result : Result Oid Refusal) → StandsWith at old h
      → RootFound at old new result → StandsWith at new h
  unfolding RootFound
  root_found_turns result stands found = by old.stopped old.level refl refl found where
    by : (stopped : Bool) (level : ℕ) → old.stopped ≡ stopped → old.level ≡ level
        → FoundBy stopped level at old new result → StandsWith at new h
    by true level going some f = same_stands at old new h stands f.1
    by false (suc n) going some f = same_stands at old new h stands f.1
    by false zero going outside f =
        let here = stands.between going outside in
        let s = here.0.standing in
        found_turns s (sym (ap (λ (x : Fields). x.level) here.0.rests.fields) ∙ outside)
        here.0.between here.1 here.2 result (f s here.0.rests here.0.between)

-- with whatever history
pub root_id_stands : {M : Type 0} (at : M → View → Type 0) (old new : Lane M)
    (result : Result Oid Refusal) → Stands at old → RootFound at old new result → Stands at new
root_id_stands at old new result stands found = stands_turned at old new (λ h. h)
    (λ h w. root_found_turns at old new h result w found) stands
