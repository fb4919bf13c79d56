-- A call that has begun may be opened.
use Rattle.std.proofs.Common.{◌≤◌, ◌≡◌, ℕ, All, inl, List, [], ◌∷◌, ◌++◌, map, length, slice_get, None, Some, refl, sym, ap, ◌∙◌, subst, arith}
use Rattle.std.proofs.lemmas.List.Elements.{All-nil}
use Rattle.std.proofs.lemmas.Option.{none-some}
use Rattle.solo_crash.proofs.Begun.{begin_under_way}
use Rattle.solo_crash.specs.Operations.{TakesWanted}
use Rattle.pm_objects.specs.declared.calls.Operation.TheVariants.{Begin}
use Rattle.pm_objects.specs.declared.calls.Want.{Want}
use Rattle.solo_undo.proofs.Begun.{tell_works}
use Rattle.solo_undo.specs.Spans.{IsSpan}
use Rattle.solo_undo.proofs.Restored.{open_settled}
use Rattle.solo_undo.proofs.Settled.{settle_lawful}
use Rattle.solo_undo.specs.Working.{FindsOpening, IsWorking, log_settled}
use Rattle.solo_view.specs.Log.{Log, Recorded}
use Rattle.solo_view.specs.Steps.Step.{Tell}
use Rattle.solo_view.specs.View.{View, Told}
use Rattle.solo_view.specs.Views.{after, after_all}
use Rattle.solo_world.specs.Sequences.{Ready, settles}
use Rattle.solo_world.specs.declared.lane.Span.{Span}
use Rattle.solo_world.specs.Lanes.{IsSeenAs, span_of}
use Rattle.solo_world.specs.Lawful.{MayTell}
use Rattle.solo_world.specs.Opening.{Opening, IsSound}
use Rattle.solo_world.specs.Records.{IsRecordAt}
use Rattle.solo_world.specs.declared.lane.Lane.{Lane}
use Rattle.solo_world.specs.declared.lane.Stage.TheVariants as stage
use Rattle.solo_lock.specs.Begun.{IsBegun}
use Rattle.solo_lock.specs.Finding.{FindsObjects}
use Rattle.solo_tx.specs.AtWork.{IsAtWork}
use Rattle.solo_tx.specs.Ending.{IsTakenBack}
use Rattle.solo_tx.specs.Sequences.{takes_back}
use Rattle.solo_tx.proofs.TakenBack.{take_back_lawful}
use Rattle.solo_crash.proofs.PendingOn.{published_first}
use Rattle.solo_tx.proofs.GoingOn.{lists_none}

module _ {M : Type 0} (at : M → View → Type 0) (lane : Lane M) (v : View) (is : IsBegun at lane v) where
  pub no_records : v.log.records ≡ []
  no_records = ap (λ (log : Log). log.records) is.log

  none_recorded : (slot : ℕ) (r : Recorded) → IsRecordAt v slot r → ⊥
  none_recorded slot r there = none-some r (subst (λ (records : List Recorded). slice_get records slot ≡ Some r) no_records there)

  pub works : IsWorking v
  works = record {
    is_open = ap (λ (log : Log). log.phase) is.log;
    undrawn = is.undrawn;
    area = is.area;
    records = record {
      most = (let many = ap length no_records in omega (arith, many));
      stored = λ slot r there. absurd (none_recorded slot r there);
      some = λ slot r there. absurd (none_recorded slot r there);
      few = λ slot r there. absurd (none_recorded slot r there);
      each = λ slot r w there. absurd (none_recorded slot r there);
      once = λ slot other r q w there. absurd (none_recorded slot r there);
    };
    drained = λ slot low. absurd (let many = ap length no_records in omega (arith, many, low));
  }

  -- once all is persistent there is nothing to be taken back
  pub settled_back : Ready v (settles v) × IsTakenBack v (after_all v (settles v))
  unfolding takes_back
  settled_back =
      subst (λ (spans : List Span). Ready v (takes_back spans v) × IsTakenBack v (after_all v (takes_back spans v))) (ap (map span_of) no_records) (take_back_lawful v works (ap (λ (log : Log). log.entries) is.log))

  -- and the call has begun still
  pub begun_settled : (memory : M) → at memory (after_all v (settles v)) → IsBegun at (record lane { memory = memory }) (after_all v (settles v))
  begun_settled memory there =
      let m : View = after_all v (settles v) in
      let same = (settle_lawful v).1 in
      let w : View = record v { changes = []; calls = m.calls; log = log_settled v.changes v } in
      let log : w.log ≡ v.log = open_settled v.changes v [] [] works.is_open in
      subst (IsBegun at (record lane { memory = memory })) (sym same) (record {
        seen = record {
          memory = subst (at memory) same there;
          locks = is.seen.locks;
          records = is.seen.records ∙ sym (ap (λ (l : Log). map span_of l.records) log);
          drawn = is.seen.drawn;
          last = is.seen.last;
          pool = is.seen.pool;
          shape = (let s = is.seen.shape in record { lanes = s.lanes; zones = s.zones; size = s.size });
        };
        unharmed = is.unharmed;
        unstopped = is.unstopped;
        unlisted = is.unlisted;
        log = log ∙ is.log;
        undrawn = is.undrawn;
        undrained = inl refl;
        untold = is.untold;
        area = (let a = is.area in record { lane = a.lane; few = a.few; inside = a.inside; below = a.below });
        may_come = (let c = is.may_come in record { found = c.found; seen = c.seen; below = c.below });
        lines = (let l = is.lines in record { inside = l.inside; once = l.once });
      })

  pub no_spans : lane.records.items ≡ []
  no_spans = is.seen.records ∙ ap (map span_of) no_records

  pub may_tell : MayTell v.log.phase
  may_tell = subst (λ (log : Log). MayTell log.phase) (sym is.log) tt

  -- the lane is seen as the view of the call that is told to have begun
  pub opened_seen : (wants : List Want) (memory : M) → at memory (after v (Tell (Begin wants) None)) → IsSeenAs at (record lane { memory = memory; level = 1; stage = stage.Work }) (after v (Tell (Begin wants) None))
  opened_seen wants memory there =
      record { memory = there; locks = is.seen.locks; records = is.seen.records; drawn = is.seen.drawn; last = is.seen.last; pool = is.seen.pool; shape = (let s = is.seen.shape in record { lanes = s.lanes; zones = s.zones; size = s.size }) }

  -- a call that is told to have begun with its locks is at work
  pub opened : (o : Opening) → IsSound o → FindsOpening o v → o.zones ≤ 32 → FindsObjects v → (wants : List Want) → TakesWanted v [] wants → (memory : M) → at memory (after v (Tell (Begin wants) None))
      → IsAtWork o at (record lane { memory = memory; level = 1; stage = stage.Work }) (after v (Tell (Begin wants) None))
  opened o sound finds zones objects wants takes memory there =
      let next : View = after v (Tell (Begin wants) None) in
      record {
        seen = opened_seen wants memory there;
        level = omega arith;
        works = refl;
        unharmed = is.unharmed;
        unstopped = is.unstopped;
        spans = subst (All IsSpan) (sym no_spans) (All-nil IsSpan);
        sound = sound;
        opening = record { lane = finds.lane; lanes = finds.lanes; size = finds.size; descriptors = finds.descriptors; locks = finds.locks };
        working = tell_works v (Begin wants) None works;
        no_entries = ap (λ (log : Log). log.entries) is.log;
        published = lists_none (record lane { memory = memory; level = 1; stage = stage.Work }) next is.unlisted
            (published_first next (record { operation = Begin wants; reply = None }) (ap (λ (told : List Told). told ++ record { operation = Begin wants; reply = None } ∷ []) is.untold));
        under_way = begin_under_way next wants (record {
          call = ap (λ (told : List Told). told ++ record { operation = Begin wants; reply = None } ∷ []) is.untold;
          no_records = no_records;
          no_entries = ap (λ (log : Log). log.entries) is.log;
          in_lanes = is.area.lane;
          takes = record {
            few = takes.few;
            locks = takes.locks;
            wanted = λ want there. (let w = takes.wanted want there in
                let h = w.held in
                record { place = w.place; held = record { lock = h.lock; lines = h.lines; held = h.held; block = h.block; allows = h.allows; of_pool = h.of_pool; place = h.place } });
            chunks = takes.chunks;
          };
        });
        may_come = (let m = is.may_come in record { found = m.found; seen = m.seen; below = m.below });
        lines = (let l = is.lines in record { inside = l.inside; once = l.once });
        zones = zones;
        objects = λ l held. let f = objects l held in record { lines = f.lines; block = f.block; known = f.known; fits = f.fits };
      }
