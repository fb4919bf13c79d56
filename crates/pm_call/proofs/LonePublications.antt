-- A PUBLISH OUTSIDE A TRANSACTION MAY BE MADE, whatever number it takes and whatever its steps find;
-- and one with a word past its object's end is refused.
use Rattle.std.proofs.Common.{◌≡◌, ◌≢◌, ℕ, suc, ◌+◌, ◌/◌, ◌<◌, ◌≤◌, inl, true, Contains, List, [], ◌∷◌, ◌++◌, map, refl, sym, ap, ◌∙◌, subst, arith, None, Some}
use Rattle.std.specs.List.{AllByRecursion}
use Rattle.std.proofs.lemmas.Bool.{both_ways}
use Rattle.pm_model.specs.Pending.{SetWord}
use Rattle.pm_model.specs.Transaction.{idle}
use Rattle.pm_objects.specs.declared.calls.Operation.TheVariants.{Publish}
use Rattle.pm_objects.specs.declared.history.Value.TheVariants.{Refused}
use Rattle.pm_objects.specs.declared.refusal.Refusal.TheVariants.{Busy}
use Rattle.pm_objects.specs.declared.calls.Want.{Want}
use Rattle.pm_record.specs.declared.redo.Redo.{Redo}
use Rattle.pm_view.specs.Steps.Step.{Tell}
use Rattle.pm_view.specs.View.{Told, View}
use Rattle.pm_view.specs.Views.{after, after_all}
use Rattle.pm_world.specs.LaneFields.{Standing, last_number, moved}
use Rattle.pm_world.specs.Sights.{is_recorded}
use Rattle.pm_crash.specs.Calls.{Fact, pending_of}
use Rattle.pm_crash.specs.Looked.{KnowsSize}
use Rattle.pm_crash.specs.OpenRuns.{after_told}
use Rattle.pm_crash.specs.Sim.{lists_of}
use Rattle.pm_crash.specs.Facts.{MissWasSeen}
use Rattle.pm_crash.proofs.EntryFacts.{records_no_miss}
use Rattle.pm_crash.proofs.SimPublish.{enters_none}
use Rattle.pm_crash.proofs.Simulation.{nothing_yet, sim_begins}
use Rattle.pm_plan.specs.Plans.{Ready}
use Rattle.pm_call.specs.At.{At, IsAt, set_entry}
use Rattle.pm_call.specs.Did.{IsOver, next}
use Rattle.pm_call.specs.GivenUp.{with_locks}
use Rattle.pm_call.specs.Locking.{AgreesOn}
use Rattle.pm_call.specs.Outside.{IsOpenWith}
use Rattle.pm_call.specs.Publications.{FindsPast, HoldsWords, LeavesPast, LeavesPublished, PassesTests, PublicationsMayBeMade, SeesWord, SeesWords, WordsPastTheEndAreRefused, publishes, wants_to_set}
use Rattle.pm_call.specs.Publishing.{CanPublish, HasWord, words_entered, words_pending}
use Rattle.pm_call.specs.Ranges.{KnowsWord}
use Rattle.pm_call.specs.RangeLaws.{KnowsSizeSeen}
use Rattle.pm_call.specs.Waiting.{HasPending}
use Rattle.pm_call.proofs.HeldWords.{as_begun, begin_told, begun_at, calling, none_entered, none_recorded, none_told, none_undrained}
use Rattle.pm_call.proofs.KnownObjects.{size_known}
use Rattle.pm_call.proofs.LoggedEnds as logs
use Rattle.pm_call.proofs.LoneCalls.{ends_over, ends_number, ends_actions, steps_ready}
use Rattle.pm_call.proofs.Noting.{all_map, sizes_told, working_told}
use Rattle.pm_call.proofs.PendingLooks.{IsHeldWord, held_words, line, no_frees, none_late, none_reserved, object, sound_now, words_are}
use Rattle.pm_call.proofs.PublicationFacts as facts
use Rattle.pm_call.proofs.PublicationTests.{IsSizedWord, last_test, tests_pass}
use Rattle.pm_call.proofs.RefusedBegins.{ended_so}
use Rattle.pm_call.proofs.PublishedWords.{pending_words_may_be_published}
use Rattle.pm_call.proofs.Staying.{has_pending, holds_with}
use Rattle.std.proofs.lemmas.Bool.{and_right}
use Rattle.std.specs.Prelude.{length}
use Rattle.pm_model.specs.Pending.{Pending, max_actions, none_pending}
use Rattle.pm_view.specs.Entries.{turn}
use Rattle.pm_view.specs.Places.{Block, Small, Big, Root, InRun, Descr}
use Rattle.pm_world.specs.LaneFields.{kept_of, listed}
use Rattle.pm_crash.specs.Calls.{pending_after}
use Rattle.pm_crash.specs.Looked.{Enters}
use Rattle.pm_crash.specs.OpenRuns.{no_pool}
use Rattle.pm_crash.specs.Sim.{change_so_far}
use Rattle.pm_crash.specs.SimCommits.{SetsWords}
use Rattle.pm_undo.specs.Spans as spans
use Rattle.pm_call.specs.Finishing.{CanLogCall}
use Rattle.pm_call.specs.Held.{has_line}
use Rattle.pm_call.specs.Plans.{logs_entries}
use Rattle.pm_call.specs.Waiting.{IsWord, listed_set, pending_now}
use Rattle.pm_call.proofs.InnerLevels.{sets_none}
use Rattle.pm_call.proofs.OverCalls.{over_as}
use Rattle.pm_call.proofs.PendingLooks.{begun_words, now_begun, now_open, placed_now}

all_two : {A : Type 0} (P Q R : A → Type 0) → ((x : A) → P x → Q x → R x) → (xs : List A)
    → AllByRecursion P xs → AllByRecursion Q xs → AllByRecursion R xs
all_two P Q R f [] p q = tt
all_two P Q R f (x ∷ xs) p q = (f x p.0 q.0, all_two P Q R f xs p.1 q.1)

pub at_of : {A : Type 0} (P : A → Type 0) (xs : List A) (x : A) → AllByRecursion P xs → Contains xs x
    → P x
at_of P [] x all (k, low, e) = absurd (omega (arith, low))
at_of P (y ∷ xs) x all (Rattle.std.proofs.Common.zero, low, e) = subst P e all.0
at_of P (y ∷ xs) x all (suc k, low, e) = at_of P xs x all.1 (k, omega (arith, low), e)

-- nothing is pending
none_left : (v : View) → pending_now v ≡ none_pending → v.actions ≡ [] → HasPending v
none_left v none empty = record {
  lists = ap (λ ts. listed ts) empty ∙ ap (λ (p : Pending). map listed_set p.sets) (sym none);
  no_frees = ap (λ (p : Pending). p.frees) none;
  none_reserved = ap (λ (p : Pending). p.reserved) none;
  on_time = ap (λ (p : Pending). p.late) none;
  few = subst (λ (p : Pending). length p.sets ≤ max_actions) (sym none) (omega arith);
  words = subst (λ (p : Pending). AllByRecursion IsWord p.sets) (sym none) tt;
}

published_now : (v : View) → pending_now (after (calling [] v) (Tell Publish None)) ≡ none_pending
unfolding pending_after
published_now v = refl

sets_published : (wants : List Want) (v : View)
    → (lists_of (after (calling (begin_told wants) v) (Tell Publish None))).sets
    ≡ (pending_of v.entries).sets
unfolding after_told
sets_published wants v = refl

module _ (t : Standing) (h : HoldsWords t) where
  abbrev wants : List Want
  wants = wants_to_set h.before

  at : At (as_begun (wants_to_set h.before) t)
  at = begun_at t h

  -- its view, had it begun a transaction
  abbrev v : View
  v = calling (begin_told (wants_to_set h.before)) t.view

  abbrev words : List SetWord
  words = words_pending t

  unlogged : t.view.log.entries ≡ []
  unlogged = at.working.unentered

  -- ---- its call is open, with nothing told in it

  lists : AgreesOn (with_locks [] t) (lists_of t.view)
  unfolding spans.words_in pending_after after_told
  lists = subst (AgreesOn (with_locks [] t)) (sym (ap (λ (c : List Told).
      after_told c (idle no_pool (pending_of t.view.entries))) (none_told t h))) (record {
        locks = λ off write. sym (and_right (has_line off) Rattle.std.proofs.Common.false refl);
        count = refl;
        recorded = sym (ap (λ rs. spans.words_in (map (kept_of t.view.fixed.shape) rs))
            (none_recorded t h));
        records = sym (ap length (none_recorded t h));
        blocks = (refl, refl, refl);
        pending = sym (now_open t.view (none_told t h));
        sets = none_entered t h;
        may_set = tt;
        error_is = refl;
      })

  pub opens : IsOpenWith (with_locks [] t) t.locks
  opens = record {
    can = record {
      working = working_told v t.view.call t.view.actions t.view.published at.working;
      unbumped = at.unbumped;
      sound = sound_now t h;
      sizes = sizes_told v t.view.call t.view.actions t.view.published at.sizes;
      sealed = at.sealed;
      number = record {
        seen = at.number.seen;
        told = at.number.told;
        below = at.number.below;
        none = at.number.none;
      };
      held = tt;
      holds = holds_with v t.view t.locks refl refl at.holds;
      own = at.own;
      room = subst (λ (es : List Redo). length es < 64) (sym (none_entered t h)) (omega arith);
      recorded = λ p e. absurd (both_ways (is_recorded t.view.log.records p)
          (ap (λ rs. is_recorded rs p) (none_recorded t h)) e);
      lists = lists;
      pending = has_pending v t.view
          (now_open t.view (none_told t h) ∙ sym (now_begun wants t.view)) refl at.pending;
      sim = sim_begins t.view (none_told t h) (none_recorded t h);
      facts = at.facts;
      tells = inl (none_told t h);
    };
    call = none_told t h;
    records = none_recorded t h;
    drained = none_undrained t h;
  }

  abbrev knows_size : (a : SetWord) → IsHeldWord t a → KnowsSizeSeen t a.id → KnowsSize t.view [] a.id.off
  knows_size a held k = size_known t.view (sound_now t h) a.id.off k.size (line t h a held)
      (object t h a held) k.sized k.small

  -- ---- A WORD PASSES ITS OBJECT'S END

  abbrev Knows : SetWord → Type 0
  Knows a = KnowsSize t.view [] a.id.off

  pub leaves_past : FindsPast t → LeavesPast t
  leaves_past f = record {
    opens = opens;
    late = last_test t.view (no_frees t h) (none_late t h) (placed_now t h)
        (subst (AllByRecursion Knows) (words_are t h) (all_two (IsHeldWord t)
        (λ (a : SetWord). KnowsSizeSeen t a.id) Knows (λ a held k. knows_size a held k) words
        (held_words t h) f.sizes))
        f.word (subst (λ ws. Contains ws f.word) (words_are t h) f.among)
        (knows_size f.word (at_of (IsHeldWord t) words f.word (held_words t h) f.among)
        (record { size = f.ends.size; sized = f.ends.sized; small = f.ends.small })) f.ends.past;
  }

  -- ---- ALL WORDS ARE SEEN

  module _ (sees : SeesWords t) where
    passes : PassesTests t.view
    passes = tests_pass t.view (no_frees t h) (none_late t h) (placed_now t h)
        (subst (AllByRecursion (IsSizedWord t.view)) (words_are t h) (all_two (IsHeldWord t)
        (SeesWord t) (IsSizedWord t.view) (λ a held k. record {
          knows = knows_size a held
              (record { size = k.range.size; sized = k.range.sized; small = k.range.small });
          inside = k.range.inside;
        }) words (held_words t h) sees))

    abbrev Leaves : (ℕ → ℕ) → ℕ → List SetWord → Type 0
    Leaves found n ws = Ready t.view (publishes ws found n t.view)
        × IsOver (next t (publishes ws found n))
        × (last_number (next t (publishes ws found n)).view.entries ≡ suc n)
        × ((next t (publishes ws found n)).view.actions ≡ [])
        × ((next t (publishes ws found n)).view.fixed ≡ t.view.fixed)

    leaves_by : (found : ℕ → ℕ) (n : ℕ) → Leaves found n words → LeavesPublished t found n
    leaves_by found n l =
        record { passes = passes; ready = l.0; over = l.1; number = l.2; pending = l.3; fixed = l.4 }

    -- ---- nothing is pending: the number alone is taken

    module _ (none : words_pending t ≡ []) (n : ℕ) where
      abbrev told : View
      told = after t.view (Tell Publish None)

      no_sets : (pending_of t.view.entries).sets ≡ []
      no_sets = sym (words_are t h) ∙ none

      no_turns : (B : Block) → turn (change_so_far told []) B ≡ None
      no_turns (Small c i) = nothing_yet told (none_recorded t h) (InRun c 0) i
      no_turns (Big f) = nothing_yet told (none_recorded t h) (Descr f) 1
      no_turns Root = refl

      fact : Fact (after t.view (Tell Publish None))
      fact = facts.words_have_facts told
          (ap (λ (c : List Told). c ++ record { operation = Publish; reply = None } ∷ [])
          (none_told t h)) (none_recorded t h) (no_frees t h) (none_reserved t h)
          (tests_pass told (no_frees t h) (none_late t h) (placed_now t h)
          (subst (AllByRecursion (IsSizedWord told)) (sym no_sets) tt)) [] (sym no_sets)
          (subst (λ es. SetsWords told [] told es []) (sym unlogged)
          (sets_none told told (λ q b. refl)))
          (subst (Enters told) (sym unlogged) (enters_none told (none_recorded t h)))
          (λ B. subst (λ es. turn (change_so_far told es) B ≡ None) (sym unlogged) (no_turns B))

      pending : HasPending (after t.view (Tell Publish None))
      pending = none_left told (ap (λ (c : List Told).
          pending_now (after (calling c t.view) (Tell Publish None))) (none_told t h)
          ∙ published_now t.view) refl

      unbusy : None ≢ Some (Refused Busy)
      unbusy e = absurd cc

      missed : MissWasSeen (after t.view (Tell Publish None))
      missed = records_no_miss (after t.view (Tell Publish None)) t.view.call Publish refl

      pub leaves_numbered : (found : ℕ → ℕ) → LeavesPublished t found n
      leaves_numbered found = leaves_by found n (subst (Leaves found n) (sym none) (
        steps_ready (with_locks [] t) t.locks opens Publish None fact unbusy missed pending n,
        ends_over (with_locks [] t) t.locks opens Publish None fact unbusy missed pending n,
        ends_number (with_locks [] t) t.locks opens Publish None fact unbusy missed pending n,
        ends_actions (with_locks [] t) t.locks opens Publish None fact unbusy missed pending n,
        ap (λ (v : View). v.fixed) (ended_so t.view Publish None n),
      ))

    -- ---- or a log is written of all

    abbrev g : Standing
    g = as_begun (wants_to_set h.before) t

    pub can : CanPublish (as_begun (wants_to_set h.before) t)
    can = record {
      each = subst (AllByRecursion (HasWord g)) (sym (begun_words t h))
          (all_map (SeesWord t) (HasWord g) words (λ a k. record {
            pool = k.range.pool;
            locked = k.range.locked;
            size = k.range.size;
            sized = k.range.sized;
            small = k.range.small;
            inside = k.range.inside;
          }) sees);
      room =
          let few = at.pending.few in
          let none = ap (λ (es : List Redo). length es) (none_entered t h) in
          omega (arith, few, none);
    }

    abbrev s : Standing
    s = words_entered (as_begun (wants_to_set h.before) t)

    entered : IsAt s 1
    entered = (pending_words_may_be_published g at can).stands

    entries_are : s.entries ≡ map set_entry words
    entries_are = (λ i. none_entered t h i ++ map set_entry (begun_words t h i))

    known : AllByRecursion (λ (e : Redo). KnowsWord s.view (e.place / 8)) s.entries
    known = subst (AllByRecursion (λ (e : Redo). KnowsWord s.view (e.place / 8)))
        (sym entries_are) (each words sees)
      where
        each : (ws : List SetWord) → AllByRecursion (SeesWord t) ws
            → AllByRecursion (λ (e : Redo). KnowsWord s.view (e.place / 8)) (map set_entry ws)
        each [] all = tt
        each (a ∷ ws) all = (
          record {
            value = all.0.word.value;
            known = all.0.word.known;
            small = all.0.word.small;
          },
          each ws all.1,
        )

    fact_logged : Fact (after (logs.g s 1 entered known [] t.view.actions t.view.published)
        (Tell Publish None))
    fact_logged = facts.logged_fact s entered known t.view.actions t.view.published
        (none_recorded t h) (no_frees t h) (none_reserved t h) (none_late t h) (placed_now t h)
        (sets_published wants t.view)

    pending_logged : HasPending (after (logs.g s 1 entered known [] t.view.actions t.view.published)
        (Tell Publish None))
    pending_logged = none_left (after (logs.g s 1 entered known [] t.view.actions t.view.published)
        (Tell Publish None)) (published_now t.view) refl

    real_is : t.view ≡ calling [] t.view
    real_is = ap (λ (c : List Told). calling c t.view) (none_told t h)

    -- the lane may log them, and end its call so
    pub can_log : CanLogCall t.view Publish (map set_entry (words_pending t))
    can_log = subst (λ (v : View). CanLogCall v Publish (map set_entry words)) (sym real_is)
        (subst (CanLogCall (calling [] t.view) Publish) entries_are
        (logs.can_log_call s 1 entered known [] t.view.actions t.view.published Publish))

    module _ (found : ℕ → ℕ) (n : ℕ) where
      abbrev Logs : View → List Redo → Type 0
      Logs v es = Ready v (logs_entries Publish es found n v)
          × IsOver (moved t (after_all v (logs_entries Publish es found n v)))
          × (last_number (after_all v (logs_entries Publish es found n v)).entries ≡ suc n)
          × ((after_all v (logs_entries Publish es found n v)).actions ≡ [])
          × ((after_all v (logs_entries Publish es found n v)).fixed ≡ t.view.fixed)

      by_log : Logs (calling [] t.view) s.entries
      by_log =
          let end = logs.logs_end s 1 entered known [] t.view.actions t.view.published Publish
          fact_logged pending_logged found n in (
            logs.logs_ready s 1 entered known [] t.view.actions t.view.published Publish fact_logged
                pending_logged found n,
            over_as (moved s (after_all (calling [] t.view)
                (logs_entries Publish s.entries found n (calling [] t.view)))) t.entries t.level
                (logs.logs_over s 1 entered known [] t.view.actions t.view.published Publish
                fact_logged pending_logged found n),
            ap (λ (v : View). last_number v.entries) end,
            ap (λ (v : View). v.actions) end,
            ap (λ (v : View). v.fixed) end,
          )

      logs_all : Logs t.view (map set_entry words)
      logs_all = subst (λ (v : View). Logs v (map set_entry words)) (sym real_is)
          (subst (Logs (calling [] t.view)) entries_are by_log)

      pub leaves_published : LeavesPublished t found n
      leaves_published = by words refl
        where
          by : (ws : List SetWord) → words ≡ ws → LeavesPublished t found n
          by [] none = leaves_numbered none n found
          by (a ∷ ws) are = leaves_by found n (subst (Leaves found n) (sym are)
              (subst (λ (bs : List SetWord). Logs t.view (map set_entry bs)) are logs_all))

pub publications_may_be_made : PublicationsMayBeMade
publications_may_be_made t found n h sees = leaves_published t h sees found n

pub words_past_the_end_are_refused : WordsPastTheEndAreRefused
words_past_the_end_are_refused t h f = leaves_past t h f
