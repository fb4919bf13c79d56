-- A begin that is refused once its call has begun: what was undrained is made persistent, and then that is told.
use Rattle.std.proofs.Common.{◌≡◌, ⊎_elim, inl, inr, ℕ, ◌<◌, ◌≤◌, ◌&&◌, Bool, rules, true, false, not, eqb, IsTrue, List, [], ◌∷◌, ◌++◌, map, length, take, Option, Ok, Err, Some, refl, sym, ap, ◌∙◌, subst}
use Rattle.std.specs.List.{filter, list_any}
use Rattle.solo_crash.proofs.RefusedBegin.{call_refused}
use Rattle.solo_crash.specs.Operations.{IsBeginReason, is_placed}
use Rattle.solo_model.specs.Places.{can_begin}
use Rattle.solo_model.specs.Transaction.{Lock as Locked, locked_all}
use Rattle.solo_memory.specs.Runs.{Stops}
use Rattle.solo_memory.specs.declared.lane_mem.Stopped.{Stopped}
use Rattle.pm_objects.specs.declared.calls.Operation.{Operation}
use Rattle.pm_objects.specs.declared.calls.Operation.TheVariants.{Begin}
use Rattle.pm_objects.specs.declared.calls.Want.{Want}
use Rattle.pm_objects.specs.declared.history.TxErr.TheVariants as error
use Rattle.pm_objects.specs.declared.history.Value.{Value}
use Rattle.pm_objects.specs.declared.history.Value.TheVariants.{Refused}
use Rattle.pm_objects.specs.declared.refusal.Refusal.{Refusal}
use Rattle.pm_objects.specs.declared.refusal.Refusal.TheVariants as refusal
use Rattle.solo_undo.proofs.Settled.{settle_lawful}
use Rattle.solo_undo.specs.Working.{IsWorking}
use Rattle.solo_view.proofs.Sequences.{after_all-append}
use Rattle.solo_view.specs.Log.{Log}
use Rattle.solo_view.specs.View.{View, Told}
use Rattle.solo_view.specs.Views.{after_all}
use Rattle.solo_world.proofs.Sequencing.{runs_err, runs_then}
use Rattle.solo_world.proofs.Shapes.{IsOfSamePool}
use Rattle.solo_world.specs.Lanes.{span_of}
use Rattle.solo_world.specs.Sequences.{IsMade, Ready, Runs, Sequence, in_turn, settles}
use Rattle.solo_world.specs.declared.lane.Lane.{Lane}
use Rattle.solo_world.specs.declared.lane.Span.{Span}
use Rattle.solo_lock.proofs.Leads.{led_none}
use Rattle.solo_lock.specs.Begun.{IsBegun}
use Rattle.solo_lock.specs.Leading.{DrawEnded}
use Rattle.solo_tx.specs.Begins.{HasStoppedRefused, IsRefusedAtOnce}
use Rattle.solo_tx.specs.Ending.{GivesUpBy, IsEndedBy, IsOver, IsReadyForAny, IsUndrawn}
use Rattle.solo_tx.specs.Sequences.{ends_call, gives_up, takes_back}
use Rattle.solo_tx.proofs.Beginnings.{no_records, no_spans, settled_back, works}
use Rattle.solo_tx.proofs.ToldBegun.{ends_words}
use Rattle.solo_tx.proofs.GivenUp.{IsLast, after_over, end_ready, give_up_drawn, give_up_last, give_up_lawful, give_up_undrawn, place_at_work, undrawn_lane}

-- a reason to refuse a begin is one by each view of the pool
module _ (v next : View) (pool : next.pool ≡ v.pool) (lanes : next.lanes ≡ v.lanes) (zones : next.zones ≡ v.zones) (level : ℕ) (before : List Locked) (wants : List Want) where
  abbrev Tests : Type 0
  Tests = Want → Bool

  placed_same : is_placed v ≡ is_placed next
  placed_same = λ i want. eqb want.id.pool (sym pool i) && can_begin (sym lanes i) (sym zones i) want.id.off

  pub reason_further : (r : Refusal) → IsBeginReason v level before wants r → IsBeginReason next level before wants r
  reason_further refusal.Deep is = is
  reason_further refusal.LocksFull is = (is.0, subst (λ (p : Tests). 64 < length (locked_all (filter p wants) before)) placed_same is.1)
  reason_further refusal.NoObject is = (
    is.0,
    subst (λ (p : Tests). length (locked_all (filter p wants) before) ≤ 64) placed_same is.1,
    ⊎_elim (λ lacks. inl (subst (λ (p : Tests). IsTrue (list_any (λ (want : Want). not (p want)) wants)) placed_same lacks)) (λ first. inr first) is.2,
  )
  reason_further refusal.Busy is = (
    is.0,
    subst (λ (p : Tests). length (locked_all (filter p wants) before) ≤ 64) placed_same is.1,
    subst (λ (p : Tests). list_any (λ (want : Want). not (p want)) wants ≡ false) placed_same is.2,
    is.3,
    is.4,
  )
  reason_further r is = absurd is

-- a call without records that is given up changes no word
pub refusing_words : (v : View) (operation : Operation) (reply : Option Value) (n : ℕ) → (after_all v (gives_up [] operation reply n v)).words ≡ v.words
unfolding gives_up takes_back in_turn
refusing_words v operation reply n =
    ap (λ (u : View). u.words) (after_all-append v (settles v) (ends_call operation reply n (after_all v (settles v)))) ∙ (ends_words (after_all v (settles v)) operation reply n ∙ ap (λ (u : View). u.words) (settle_lawful v).1)

module _ {M : Type 0} (at : M → View → Type 0) (lane : Lane M) (v : View) (is : IsBegun at lane v) (wants : List Want) (r : Refusal) where
  abbrev op : Operation
  op = Begin wants

  abbrev reply : Option Value
  reply = Some (Refused r)

  abbrev refuses : ℕ → Sequence
  refuses n = gives_up [] op reply n

  working : IsWorking v
  working = works at lane v is

  unentered : v.log.entries ≡ []
  unentered = ap (λ (log : Log). log.entries) is.log

  none : map span_of v.log.records ≡ []
  none = ap (map span_of) (no_records at lane v is)

  lawful : (n : ℕ) → Ready v (refuses n v) × IsOver v (after_all v (refuses n v)) n
  lawful n =
      subst (λ (spans : List Span). Ready v (gives_up spans op reply n v) × IsOver v (after_all v (gives_up spans op reply n v)) n) none
      (give_up_lawful v working unentered is.may_come op reply n)

  last : (n : ℕ) → IsLast v (after_all v (refuses n v)) n op reply
  last n = subst (λ (spans : List Span). IsLast v (after_all v (gives_up spans op reply n v)) n op reply) none (give_up_last v working unentered is.may_come op reply n)

  undrawn : (n made : ℕ) → made < length (refuses n v) → IsUndrawn v (after_all v (take made (refuses n v)))
  undrawn n made =
      subst (λ (spans : List Span). made < length (gives_up spans op reply n v) → IsUndrawn v (after_all v (take made (gives_up spans op reply n v)))) none
      (give_up_undrawn v working unentered is.may_come op reply n made)

  told_one : v.call ++ record { operation = op; reply = reply } ∷ [] ≡ record { operation = op; reply = reply } ∷ []
  told_one = ap (λ (told : List Told). told ++ record { operation = op; reply = reply } ∷ []) is.untold

  why : IsBeginReason v 0 [] wants r → GivesUpBy v op reply (error.Refused r)
  why reason next tells back kept = inl (call_refused next wants r (record {
    call = tells.call ∙ told_one;
    no_records = ⊎_elim (λ (gone : next.log.records ≡ []). gone) (λ (same : next.log.records ≡ v.log.records). same ∙ no_records at lane v is) back.records;
    reason = reason_further v next tells.keeps.pool tells.keeps.lanes tells.keeps.zones 0 [] wants r reason;
  }))

  draws : IsBeginReason v 0 [] wants r → (n : ℕ) → DrawEnded v (refuses n v)
  draws reason n =
      subst (λ (spans : List Span). DrawEnded v (gives_up spans op reply n v)) none (give_up_drawn v working unentered is.may_come op reply n (error.Refused r) (why reason))

  -- once all is persistent the refusal may be told, and whatever number be drawn
  pub refusal_ready : (mid : View → Type 0) → Runs {T = Unit {0}} (at lane.memory) mid settles (Ok tt) → IsReadyForAny mid (ends_call op reply)
  unfolding Runs IsReadyForAny
  refusal_ready mid ran = (after_all v (settles v), (ran v is.seen.memory (settled_back at lane v is).0, λ n. end_ready v (after_all v (settles v)) working is.may_come (settled_back at lane v is).1 op reply n))

  module _ (reason : IsBeginReason v 0 [] wants r) (new : Lane M) where
    ended : IsMade (at lane.memory) (at new.memory) (refuses new.last) → new.locks.items ≡ lane.locks.items → new.records.items ≡ lane.records.items → new.entries ≡ lane.entries → new.drawn ≡ Some new.last → IsOfSamePool lane new → new.stopped ≡ lane.stopped
        → IsEndedBy at new v (refuses new.last) op reply
    unfolding Runs
    ended made locks records listed drawn pool stops =
        let t = lawful new.last in
        let told = last new.last in
        record {
          ready = t.0;
          draws = draws reason new.last;
          behind =
              after_over at lane new v (after_all v (refuses new.last v)) is.seen is.lines (made v is.seen.memory t.0) t.1 locks (records ∙ no_spans at lane v is) (ap (λ es. es.items) listed ∙ is.unlisted) drawn pool (stops ∙ is.unstopped) (place_at_work v working);
          over = t.1;
          told = told.0;
          entries = told.1;
        }

    -- a begin that was refused
    pub refused : (mid : View → Type 0) → Runs {T = Unit {0}} (at lane.memory) mid settles (Ok tt) → IsMade mid (at new.memory) (ends_call op reply new.last) → new.locks.items ≡ lane.locks.items → new.records.items ≡ lane.records.items → new.entries ≡ lane.entries → new.drawn ≡ Some new.last
        → IsOfSamePool lane new → new.stopped ≡ lane.stopped → IsRefusedAtOnce at new v wants r
    unfolding gives_up takes_back
    refused mid first second locks records listed drawn pool stops =
        let made : IsMade (at lane.memory) (at new.memory) (refuses new.last) = runs_then (at lane.memory) mid (at new.memory) settles (ends_call op reply new.last) tt (Ok tt) first second in
        let end = ended made locks records listed drawn pool stops in
        record {
          refused = record {
            found = v;
            led = led_none v;
            undrawn = refl;
            working = working;
            log = is.log;
            ended = end;
            view = after_all v (refuses new.last v);
            is = refl;
            same = end.over.lane;
            over = end.behind;
            number = end.over.number;
            call = end.told ∙ told_one;
            entries = end.entries;
          };
          words = refusing_words v op reply new.last;
        }

    -- or the lane stopped before that was told
    pub stopped_refusing : (stopped : Stopped) → Runs {T = Unit {0}} (at lane.memory) (at new.memory) settles (Err stopped) → new.stopped ≡ true → new.drawn ≡ lane.drawn → HasStoppedRefused at new v wants
    unfolding Runs gives_up takes_back
    stopped_refusing stopped ran says drawn =
        let t = lawful new.last in
        let all : Runs {T = Unit {0}} (at lane.memory) (at new.memory) (refuses new.last) (Err stopped) =
        runs_err {U = Unit {0}} (Unit {0}) (at lane.memory) (at new.memory) settles (ends_call op reply new.last) stopped (Err stopped) (search rules) ran in
        let stops : Stops (at new.memory) v (refuses new.last v) = all v is.seen.memory t.0 in
        let before = undrawn new.last stops.made stops.fewer in
        record {
          why = r;
          found = v;
          led = led_none v;
          undrawn = refl;
          working = working;
          log = is.log;
          reason = reason;
          stopped = record {
            ready = t.0;
            draws = draws reason new.last;
            stops = stops;
            stopped = says;
            drawn = drawn ∙ (undrawn_lane at lane v is.seen is.undrawn ∙ sym before.0);
            came = record { told = inl before.0; entries = inl before };
          };
        }
