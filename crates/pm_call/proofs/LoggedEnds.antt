-- A CALL WHOSE WORDS ARE LOGGED ENDS: an operation is told, the call takes its number, and the log is
-- performed. So it is from the view of a lane at work, and from one that knows and holds the same.
use Rattle.std.proofs.Common.{◌≡◌, ℕ, ◌+◌, ◌*◌, ◌/◌, inl, inr, true, cond, eq-eqb, ◌==◌, All, List, [], ◌∷◌, ◌++◌, map, refl, sym, ap, ◌∙◌, subst, arith, None, Some}
use Rattle.std.specs.List.{AllByRecursion}
use Rattle.std.proofs.lemmas.Bool.{cond-true}
use Rattle.pm_layout.specs.declared.shape.Shape.{Shape}
use Rattle.pm_layout.specs.Areas.{word_of_generation, word_of_seal}
use Rattle.pm_objects.specs.declared.calls.Operation.{Operation}
use Rattle.pm_record.specs.Redo.{outcome}
use Rattle.pm_record.specs.declared.redo.Redo.{Redo}
use Rattle.pm_view.specs.Claims.{header_in}
use Rattle.pm_view.specs.Entries.{Entry, first_of_two, latest, redos, turn}
use Rattle.pm_view.specs.Log.{Idle, new_log}
use Rattle.pm_view.specs.Places.{Block}
use Rattle.pm_view.specs.Steps.{Step}
use Rattle.pm_view.specs.Steps.Step.{Draw, Tell}
use Rattle.pm_view.specs.View.{Told, View}
use Rattle.pm_view.specs.Views.{after, after_all, value_in}
use Rattle.pm_world.specs.LaneFields.{Standing, moved}
use Rattle.pm_world.specs.Lanes.{is_occupancy}
use Rattle.pm_world.specs.Lawful.{KeepsRoot, MayDraw}
use Rattle.pm_world.specs.Logs.{AreWhole, ends_with}
use Rattle.pm_crash.specs.Calls.{Fact}
use Rattle.pm_crash.specs.Footprints.{has_found}
use Rattle.pm_crash.specs.Sim.{lists_of}
use Rattle.pm_crash.proofs.EntryFacts.{draws_keep_facts, records_no_miss, told_plainly}
use Rattle.pm_plan.proofs.Notes as notes
use Rattle.pm_plan.specs.Plans.{Ready, in_turn, one}
use Rattle.pm_plan.proofs.Plans.{after_all-append, ready_both}
use Rattle.pm_redo.specs.Entries.{last_made, logged_entry}
use Rattle.pm_redo.specs.Plans.{performs, writes_log}
use Rattle.pm_redo.specs.Stages.{CanEnter, CanLog, CanSeal, IsLogged, IsOfPlace, IsPerformed, all_logged, decided}
use Rattle.pm_redo.proofs.LogWritten.{log_lawful}
use Rattle.pm_redo.proofs.Numbered.{numbered_lawful}
use Rattle.pm_redo.proofs.Performed.{perform_lawful}
use Rattle.pm_call.specs.At.{IsAt}
use Rattle.pm_call.specs.Did.{IsOver}
use Rattle.pm_call.specs.Finishing.{CanLogCall}
use Rattle.pm_call.specs.Plans.{ends_call, logs_entries}
use Rattle.pm_call.specs.Ranges.{KnowsWord}
use Rattle.pm_call.specs.Waiting.{HasPending, uncalled}
use Rattle.pm_call.proofs.Frames.{header_so, noting}
use Rattle.pm_call.proofs.LoggedCalls as calls
use Rattle.pm_call.proofs.Noting.{all_map, sizes_told, sound_told}
use Rattle.pm_call.proofs.OverCalls.{ClaimsStand, claims_at_work, claims_decided, claims_ended, claims_noted, drawn_now, found_decided, over_by, size_decided, size_no_entry, size_no_seal, sizes_unmade}
use Rattle.pm_call.proofs.SetEntries.{can_enter_all}
use Rattle.pm_call.proofs.Staying.{has_pending, holds_with}

-- the last entry ends the generation
last_end : (found : ℕ → ℕ) (sh : Shape) (lane generation : ℕ) (front : List Entry)
    → last_made found (front ++ ends_with sh lane generation ∷ []) (word_of_generation sh lane)
    ≡ Some (generation + 1)
last_end found sh lane generation [] =
    cond-true (word_of_generation sh lane == word_of_generation sh lane) (Some (generation + 1)) None
    (eq-eqb (word_of_generation sh lane) (word_of_generation sh lane) refl)
last_end found sh lane generation (e ∷ front) =
    ap (λ o. first_of_two o
    (cond (e.word == word_of_generation sh lane) (Some (outcome e.op e.value (found 0))) None))
    (last_end (λ i. found (i + 1)) sh lane generation front)

-- an operation that is told changes nothing of a log
places_told : (v : View) (op : Operation) (n : ℕ) (es : List Entry)
    → AllByRecursion (IsOfPlace (after v (Draw n))) es
    → AllByRecursion (IsOfPlace (after (after v (Tell op None)) (Draw n))) es
places_told v op n es all =
    all_map (IsOfPlace (after v (Draw n))) (IsOfPlace (after (after v (Tell op None)) (Draw n))) es
    (λ e o. record { place = o.place; is = o.is; at = o.at; root = o.root; small = o.small }) all

seal_told : (y : View) (op : Operation) (n : ℕ) → CanSeal (after y (Draw n))
    → CanSeal (after (after y (Tell op None)) (Draw n))
seal_told y op n c = record {
  number = c.number;
  drawn = c.drawn;
  log_ = record {
    front = c.log_.front;
    are = c.log_.are;
    each = places_told y op n c.log_.front c.log_.each;
    few = c.log_.few;
    below = c.log_.below;
    lane = c.log_.lane;
  };
  drained = c.drained;
  seal = c.seal;
  generation = c.generation;
}

module _ (s : Standing) (level : ℕ) (here : IsAt s level)
    (known : AllByRecursion (λ (e : Redo). KnowsWord s.view (e.place / 8)) s.entries)
    (call actions published : List Told) where
  -- the view that knows and holds the same
  abbrev pub real : View
  real = record s.view { call = call; actions = actions; published = published }

  abbrev es : List Redo
  es = s.entries

  -- ---- the log is written

  can_enter : AllByRecursion (CanEnter real) s.entries
  can_enter = all_map (CanEnter s.view) (CanEnter real) s.entries
      (λ e c. record {
        place = c.place;
        at = c.at;
        may = c.may;
        gives = c.gives;
        aligned = c.aligned;
        small = c.small;
      })
      (subst (AllByRecursion (CanEnter s.view)) (sym here.lists.sets)
      (can_enter_all s level here (lists_of s.view).sets here.lists.may_set))

  pub can_log : CanLog real s.entries
  can_log = record {
    is_open = here.working.is_open;
    whole = here.working.whole;
    unentered = here.working.unentered;
    below = here.working.below;
    lane = here.working.lane;
    lanes = here.working.lanes;
    zones = here.working.zones;
    unmaking = here.working.unmaking;
    few = here.room;
    each = can_enter;
  }

  abbrev w : View
  w = after_all real (writes_log s.entries real)

  pub written_log : IsLogged real s.entries (after_all real (writes_log s.entries real))
  written_log = (log_lawful real s.entries can_log).1

  abbrev pub g : View
  g = noting real written_log.noted.notes [] w.calls
      (record s.view.log { entries = all_logged s.view s.entries })

  pub same_g : w ≡ g
  same_g = written_log.same ∙ ap (λ c. record real {
    claims = c;
    changes = [];
    calls = w.calls;
    log = record s.view.log { entries = all_logged s.view s.entries };
  }) written_log.noted.are

  -- as from the view of the lane at work
  abbrev pub w_work : View
  w_work = record (after_all real (writes_log s.entries real)) {
    call = s.view.call;
    actions = s.view.actions;
    published = s.view.published;
  }

  abbrev pub work_log : IsLogged s.view s.entries w_work
  work_log = record {
    same = ap (λ (y : View). record y {
      call = s.view.call;
      actions = s.view.actions;
      published = s.view.published;
    }) written_log.same;
    noted = record {
      notes = written_log.noted.notes;
      are = written_log.noted.are;
      each = written_log.noted.each;
    };
    known = written_log.known;
    whole = written_log.whole;
    log_ = record {
      front = written_log.log_.front;
      are = written_log.log_.are;
      each = all_map (IsOfPlace w) (IsOfPlace w_work) written_log.log_.front
          (λ e o. record { place = o.place; is = o.is; at = o.at; root = o.root; small = o.small })
          written_log.log_.each;
      few = written_log.log_.few;
      below = written_log.log_.below;
      lane = written_log.log_.lane;
    };
    root = written_log.root;
  }

  pub no_turn : (B : Block) → turn (latest (redos (all_logged s.view s.entries))) B ≡ None
  no_turn B = calls.no_turn_logged s level here known w_work work_log B

  module _ (op : Operation) where
    abbrev told : View
    told = after g (Tell op None)

    pub may_draw : MayDraw told
    may_draw = record {
      is_open = here.working.is_open;
      whole = here.working.whole;
      first = here.number.none;
      drained = inl refl;
      found = here.number.seen;
      seen = here.number.told;
      below = here.number.below;
      new_blocks =
          λ B e. absurd (let z : Some true ≡ None = sym e ∙ no_turn B in cc);
      root = subst (λ (y : View). All (KeepsRoot y) y.log.entries) same_g written_log.root;
      entries = inr (subst (λ (y : View). AreWhole y.fixed.shape y.fixed.lane y.log) same_g
          written_log.whole);
    }

    module _ (n : ℕ) where
      abbrev done : View
      done = after told (Draw n)

      -- ---- it may be performed once the call has its number
      pub can_seal : CanSeal done
      can_seal = seal_told g op n (subst (λ (y : View). CanSeal (after y (Draw n))) same_g
          (numbered_lawful real w s.entries n can_log written_log here.sealed here.working.known))

      -- the steps up to there
      told_drawn : (y : View)
          → after_all y (ends_call op None n y) ≡ after (after y (Tell op None)) (Draw n)
      unfolding in_turn one after_all
      told_drawn y = refl

      numbers_ready : Ready w (ends_call op None n w)
      unfolding Ready in_turn one
      numbers_ready = subst (λ (y : View). Ready y (Tell op None ∷ Draw n ∷ [])) (sym same_g)
          (here.working.is_open, tt, (may_draw, tt, tt))

      numbers_then : CanSeal (after_all w (ends_call op None n w))
      numbers_then = subst CanSeal (sym (told_drawn w
          ∙ ap (λ (y : View). after (after y (Tell op None)) (Draw n)) same_g)) can_seal

    -- THE CALL MAY BE LOGGED, and end with this operation
    pub can_log_call : CanLogCall real op s.entries
    can_log_call = record {
      logs = can_log;
      numbers = record { ready = numbers_ready; then = numbers_then };
    }

    module _ (fact : Fact told) (pending : HasPending told) (found_ : ℕ → ℕ) (n : ℕ) where
      abbrev last : View
      last = after told (Draw n)

      abbrev end_ : View
      end_ = after_all last (performs found_ last)

      pub performed : IsPerformed last found_ end_
      performed = (perform_lawful last found_ (can_seal n)).1

      abbrev final : View
      final = noting (decided last) performed.noted.notes [] end_.calls
          (new_log Idle (s.view.log.generation + 1))

      same_end : end_ ≡ final
      same_end = performed.same ∙ ap (λ c. record last {
        claims = c;
        changes = [];
        calls = end_.calls;
        log = new_log Idle (s.view.log.generation + 1);
      }) performed.noted.are

      -- ---- and the lane holds what it held
      real_claims : ClaimsStand real s.locks
      real_claims =
          let c = claims_at_work s level s.locks here in record {
            lane = c.lane;
            lanes = c.lanes;
            zones = c.zones;
            unmaking = c.unmaking;
            sound = sound_told s.view call actions published c.sound;
            sizes = sizes_told s.view call actions published c.sizes;
            holds = holds_with s.view real s.locks refl refl c.holds;
            own = c.own;
          }

      g_claims : ClaimsStand g s.locks
      g_claims = claims_noted real written_log.noted.notes [] w.calls
          (record s.view.log { entries = all_logged s.view s.entries }) written_log.noted.each s.locks
          (λ B found inside.
          let size : ℕ = 8 * header_in s.view.fixed.shape s.view.claims B + 1 in
          sym (ap (λ (y : View). value_in y size) same_g)
          ∙ (written_log.known size (size_no_entry real here.working.lane B inside)).1)
          real_claims

      last_claims : ClaimsStand last s.locks
      last_claims = claims_ended g op None n s.locks g_claims

      -- no entry is of a size
      size_made : (B : Block) → has_found s.view B ≡ true
          → is_occupancy s.view.fixed.shape B ≡ true
          → last_made found_ (all_logged s.view s.entries)
          (8 * header_in s.view.fixed.shape s.view.claims B + 1) ≡ None
      size_made B found inside =
          ap (λ (ds : List Redo). last_made found_ (all_logged s.view ds)
          (8 * header_in s.view.fixed.shape s.view.claims B + 1)) here.lists.sets
          ∙ sizes_unmade s level here B found inside found_ (lists_of s.view).sets
          here.lists.may_set

      found_p : (B : Block) → has_found last B ≡ has_found s.view B
      found_p B = notes.found_same s.view.fixed.shape written_log.noted.notes s.view.claims
          written_log.noted.each B

      header_p : (B : Block) → header_in last.fixed.shape last.claims B
          ≡ header_in s.view.fixed.shape s.view.claims B
      header_p B = header_so s.view.fixed.shape written_log.noted.notes s.view.claims
          written_log.noted.each here.working.unmaking B

      size_end : (B : Block) → has_found (decided last) B ≡ true
          → is_occupancy last.fixed.shape B ≡ true
          → value_in final (8 * header_in last.fixed.shape last.claims B + 1)
          ≡ value_in (decided last) (8 * header_in last.fixed.shape last.claims B + 1)
      size_end B found inside =
          sym (ap (λ (y : View). value_in y (8 * header_in last.fixed.shape last.claims B + 1))
          same_end)
          ∙ (performed.made (8 * header_in last.fixed.shape last.claims B + 1)
          (size_no_seal last here.working.lane B inside)
          ∙ (ap (λ o. first_of_two o
          (value_in last (8 * header_in last.fixed.shape last.claims B + 1)))
          (ap (λ l. last_made found_ (all_logged s.view s.entries) (8 * l + 1)) (header_p B)
          ∙ size_made B (sym (found_p B)
          ∙ (sym (found_decided last no_turn here.working.lane B) ∙ found)) inside)
          ∙ sym (size_decided last no_turn here.working.lane B inside)))

      final_claims : ClaimsStand final s.locks
      final_claims = claims_noted (decided last) performed.noted.notes [] end_.calls
          (new_log Idle (s.view.log.generation + 1)) performed.noted.each s.locks size_end
          (claims_decided last no_turn here.working.lane s.locks last_claims)

      known_end : value_in final (word_of_generation s.view.fixed.shape s.view.fixed.lane)
          ≡ Some (s.view.log.generation + 1)
      known_end =
          let at : ℕ = word_of_generation s.view.fixed.shape s.view.fixed.lane in
          sym (ap (λ (y : View). value_in y at) same_end)
          ∙ (performed.made at (λ e. omega (arith, e))
          ∙ ap (λ o. first_of_two o (value_in last at))
          (last_end found_ s.view.fixed.shape s.view.fixed.lane s.view.log.generation
          (map (logged_entry s.view) s.entries)))

      over_end : IsOver (moved s final)
      over_end = over_by (moved s final) refl refl known_end
          (sym (ap (λ (y : View). value_in y
          (word_of_seal s.view.fixed.shape s.view.fixed.lane)) same_end) ∙ performed.seal)
          (draws_keep_facts told n fact (told_plainly g.call op told.seen) (records_no_miss told g.call op refl) here.facts)
          (has_pending told (uncalled final) (drawn_now g op None n) refl pending)
          final_claims

      -- ---- the steps
      abbrev ends : View → List Step
      ends y = Tell op None ∷ Draw n
          ∷ performs found_ (after (after y (Tell op None)) (Draw n))

      ends_are : (y : View) → in_turn (ends_call op None n) (performs found_) y ≡ ends y
      unfolding in_turn one after_all
      ends_are y = refl

      ends_ready : Ready w (ends w)
      unfolding Ready
      ends_ready = subst (λ (y : View). Ready y (ends y)) (sym same_g)
          (here.working.is_open, tt, (may_draw, tt, (perform_lawful last found_ (can_seal n)).0))

      ends_after : (y : View) → after_all y (ends y)
          ≡ after_all (after (after y (Tell op None)) (Draw n))
          (performs found_ (after (after y (Tell op None)) (Draw n)))
      unfolding after_all
      ends_after y = refl

      plan_is : logs_entries op s.entries found_ n real ≡ writes_log s.entries real ++ ends w
      unfolding in_turn
      plan_is = ap (λ z. writes_log s.entries real ++ z) (ends_are w)

      -- SO IT ENDS
      pub logs_ready : Ready real (logs_entries op s.entries found_ n real)
      logs_ready = subst (Ready real) (sym plan_is) (ready_both real (writes_log s.entries real)
          (ends w) (log_lawful real s.entries can_log).0 ends_ready)

      pub logs_end : after_all real (logs_entries op s.entries found_ n real) ≡ final
      logs_end = ap (after_all real) plan_is
          ∙ (after_all-append real (writes_log s.entries real) (ends w)
          ∙ (ap (λ (y : View). after_all y (ends y)) same_g
          ∙ (ends_after g ∙ same_end)))

      pub logs_over : IsOver (moved s (after_all real (logs_entries op s.entries found_ n real)))
      logs_over = subst (λ (y : View). IsOver (moved s y)) (sym logs_end) over_end
