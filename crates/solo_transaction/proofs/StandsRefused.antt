-- What a lane alone has reserved and pending stands behind a transaction whose begin was refused: all was made persistent, the refusal told, and the number drawn.
use Rattle.std.proofs.Common.{◌≡◌, inl, ℕ, ◌<◌, false, All, Contains, List, [], ◌∷◌, ◌++◌, map, Option, Some, slice_index, sym, ap, ◌∙◌, subst}
use Rattle.std.specs.List.{filter}
use Rattle.std.proofs.lemmas.Bool.{cond-false}
use Rattle.pm_header.specs.declared.header.Header.{Header}
use Rattle.pm_image.specs.Blocks.{chunk_word, descriptor_word}
use Rattle.pm_layout.specs.declared.shape.Shape.{Shape}
use Rattle.solo_model.specs.Actions.{Pending, Reservation, none_pending}
use Rattle.pm_objects.specs.declared.calls.Operation.{Operation}
use Rattle.pm_objects.specs.declared.calls.Operation.TheVariants.{Begin}
use Rattle.pm_objects.specs.declared.calls.Want.{Want}
use Rattle.pm_objects.specs.declared.history.Value.{Value}
use Rattle.pm_objects.specs.declared.history.Value.TheVariants.{Refused}
use Rattle.pm_objects.specs.declared.pool.PoolView.{PoolView}
use Rattle.pm_objects.specs.declared.refusal.Refusal.{Refusal}
use Rattle.solo_view.proofs.Sequences.{after_all-append}
use Rattle.solo_view.specs.Constants.{IsSameLane}
use Rattle.solo_view.specs.Founds.{IsAlone}
use Rattle.solo_view.specs.Held.{is_held}
use Rattle.solo_view.specs.Steps.{Step}
use Rattle.solo_view.specs.Steps.Step.{Draw, Tell}
use Rattle.solo_view.specs.View.{Lock, View}
use Rattle.solo_view.specs.Views.{after, after_all, changes_heap, unallocated}
use Rattle.solo_world.specs.Lawful.{generation_limit}
use Rattle.solo_world.specs.Opening.{Opening}
use Rattle.solo_world.specs.Records.{generation_of}
use Rattle.solo_world.specs.Sequences.{in_turn, one, settles}
use Rattle.solo_world.specs.declared.lane.Lane.{Lane}
use Rattle.solo_undo.proofs.Settled.{settle_lawful}
use Rattle.solo_undo.specs.Working.{IsSettled}
use Rattle.solo_crash.specs.Alone.{WorksAlone}
use Rattle.solo_crash.specs.CallBlocks.{reserved_object}
use Rattle.solo_crash.specs.Leading.{Leads}
use Rattle.solo_crash.specs.Pending.{pending_before, pending_from, pending_in, pending_told}
use Rattle.solo_crash.specs.Reserving.{ReservedLieApart}
use Rattle.solo_crash.proofs.AloneCourse.{begins_alone}
use Rattle.solo_crash.proofs.Leading.{leads_then}
use Rattle.solo_crash.proofs.OnTheWay.{alone_on_the_way}
use Rattle.solo_crash.proofs.PendingOn.{calls_further}
use Rattle.solo_crash.proofs.ReservedStays.{nothing_made}
use Rattle.solo_crash.proofs.StillReserved.{HasSameHeads}
use Rattle.solo_lock.proofs.Leading.{ready_leads}
use Rattle.solo_lock.proofs.Leads.{led_same}
use Rattle.solo_lock.specs.Leading.{DrawEnded}
use Rattle.solo_epoch.specs.Reserving.{RestsWithReserved, with_next_call}
use Rattle.solo_tx.proofs.RefusedBegins.{refusing_words}
use Rattle.solo_tx.specs.Begins.{HasRefused}
use Rattle.solo_tx.specs.Sequences.{ends_call, gives_up, takes_back}
use Rattle.solo_transaction.proofs.GoingWith.{lies_still}
use Rattle.solo_transaction.proofs.RestingViews.{NextOf, all_reserved, next_known, next_of, next_of_untold, next_pending}
use Rattle.solo_transaction.proofs.StandsBehindBegin.{apart_so, led_lies, stands_led, works_inside}
use Rattle.solo_transaction.specs.AtWork.{LiesInReserved}
use Rattle.solo_transaction.specs.Published.{HasOwnCounts}
use Rattle.solo_transaction.specs.Resting.{StandsAtRest}

-- ---- the steps of a call that did nothing and is refused

-- what the last of some steps draw is an ended call's
drawn_right : (v : View) (xs ys : List Step) → DrawEnded v (xs ++ ys) → DrawEnded (after_all v xs) ys
unfolding DrawEnded after_all
drawn_right v [] ys drawn = drawn
drawn_right v (x ∷ xs) ys drawn = drawn_right (after v x) xs ys drawn.1

module _ (v : View) (op : Operation) (reply : Option Value) (n : ℕ) (drawn : DrawEnded v (gives_up [] op reply n v)) where
  abbrev m : View
  m = after_all v (settles v)

  abbrev told : View
  told = after m (Tell op reply)

  abbrev d : View
  d = after told (Draw n)

  settled : IsSettled v m
  settled = (settle_lawful v).1

  abbrev end : View
  end = after_all v (gives_up [] op reply n v)

  is_drawn : end ≡ d
  unfolding gives_up takes_back ends_call in_turn one after_all
  is_drawn = after_all-append v (settles v) (ends_call op reply n m)

  plain : changes_heap told ≡ false
  unfolding gives_up takes_back ends_call in_turn one DrawEnded after_all
  plain = (drawn_right v (settles v) (ends_call op reply n m) drawn).1.0.1

  -- such a call knows what it knew, and has of the heap what it had
  refused_knows : (i : ℕ) → Contains v.known i → Contains end.known i
  refused_knows i there =
      let here : Contains told.known i = subst (λ (z : View). Contains z.known i) (sym settled) there in
      subst (λ (z : View). Contains z.known i) (sym is_drawn) (subst (λ (known : List ℕ). Contains known i) (sym (cond-false (changes_heap told) (filter (is_held (record told { reserved = unallocated told })) told.known) told.known plain)) here)

  refused_reserved : end.reserved ≡ v.reserved
  refused_reserved = ap (λ (z : View). z.reserved) is_drawn ∙ (cond-false (changes_heap told) (unallocated told) told.reserved plain ∙ ap (λ (z : View). z.reserved) settled)

  refused_heads : IsSameLane v end → HasSameHeads v end
  refused_heads same =
      let words : (i : ℕ) → slice_index end.words i ≡ slice_index v.words i = λ i. ap (λ (ws : List ℕ). slice_index ws i) (refusing_words v op reply n) in
      record { lanes = same.lanes; zones = same.zones; reserved = refused_reserved; described = λ c in_pool. words (descriptor_word v.lanes c); bitmaps = λ c in_pool run. words (chunk_word v.lanes c); root = words 64 }

-- ---- a begin that was refused

module _ {M : Type 0} (o : Opening) (header : Header) (pool : PoolView) (start v : View) (steps : List Step) (shape : Shape) (at : M → View → Type 0) (lane : Lane M) (wants : List Want) (r : Refusal)
    (rested : RestsWithReserved o header pool start steps v shape) (below : generation_of v < generation_limit) (rests : StandsAtRest v) (was : HasRefused at lane v wants r) (own : HasOwnCounts was.view) where
  abbrev op : Operation
  op = Begin wants

  abbrev reply : Option Value
  reply = Some (Refused r)

  abbrev y : View
  y = was.view

  abbrev gives : List Step
  gives = gives_up [] op reply lane.last was.found

  alone : IsAlone v
  alone = alone_on_the_way start v steps (begins_alone o header pool start rested.works.begins) rested.works.leads

  next : NextOf v (with_next_call v)
  next = next_of_untold v (works_inside o header pool start v steps rested.works) (rested.next below).untold

  works : WorksAlone o header pool start (steps ++ (was.led.steps ++ gives)) y
  works = record {
    begins = rested.works.begins;
    leads = leads_then start v y steps (was.led.steps ++ gives) rested.works.leads
        (leads_then v was.found y was.led.steps gives was.led.leads (subst (Leads was.found gives) (sym was.is) (ready_leads was.found gives was.ended.ready was.ended.draws)));
    numbered = own.numbered;
    within = own.within;
  }

  next_y : NextOf y (with_next_call y)
  next_y = next_of y (works_inside o header pool start y (steps ++ (was.led.steps ++ gives)) works) (inl was.over.log)

  -- from where it was refused
  abbrev ended : View
  ended = after_all was.found gives

  same_found : IsSameLane was.found ended
  same_found =
      let l = led_same v was.found was.led in
      let whole : IsSameLane v ended = subst (IsSameLane v) was.is was.same in
      record {
        lanes = whole.lanes ∙ sym l.lanes;
        zones = whole.zones ∙ sym l.zones;
        pool = whole.pool ∙ sym l.pool;
        lane = whole.lane ∙ sym l.lane;
        stop = whole.stop ∙ sym l.stop;
        table = whole.table ∙ sym l.table;
        size = whole.size ∙ sym l.size;
      }

  heads_y : HasSameHeads was.found y
  heads_y = subst (HasSameHeads was.found) (sym was.is) (refused_heads was.found op reply lane.last was.ended.draws same_found)

  known_y : (i : ℕ) → Contains was.found.known i → Contains y.known i
  known_y i there = subst (λ (z : View). Contains z.known i) (sym was.is) (refused_knows was.found op reply lane.last was.ended.draws i there)

  -- the same is pending
  told_none : (p : Pending) → pending_told p y.call ≡ p
  unfolding pending_told
  told_none p = ap (pending_told p) was.call

  pending_over : pending_before y ≡ pending_before v
  pending_over = ap (pending_from none_pending) was.entries ∙ (calls_further none_pending v.entries (record { number = lane.last; call = y.call }) ∙ told_none (pending_before v))

  pending_y : pending_in y ≡ pending_before v
  pending_y = told_none (pending_before y) ∙ pending_over

  lies : (s : Reservation) → Contains (pending_before v).reserved s → LiesInReserved y (reserved_object s)
  lies s there = lies_still was.found y heads_y (reserved_object s) (led_lies v next alone rests was.found was.led s there)

  apart : ReservedLieApart y
  apart = apart_so o header pool start y (steps ++ (was.led.steps ++ gives)) works (λ s there. lies s (subst (λ (p : Pending). Contains p.reserved s) pending_y there))

  pending_then : (pending_in (with_next_call y)).reserved ≡ (pending_before v).reserved
  pending_then = ap (λ (p : Pending). p.reserved) (next_pending y (with_next_call y) next_y ∙ pending_over)

  pub refused_stands : StandsAtRest y
  refused_stands = record {
    stands = stands_led v next alone rests was.found was.led (with_next_call y) (next_y.lanes ∙ heads_y.lanes) (next_y.zones ∙ heads_y.zones) (next_y.lane ∙ (ap (λ (z : View). z.lane) was.is ∙ same_found.lane))
        (next_y.words ∙ (ap (λ (z : View). z.words) was.is ∙ refusing_words was.found op reply lane.last)) (λ i there. next_known y (with_next_call y) next_y i (known_y i there)) pending_then (nothing_made (with_next_call y) next_y.call)
        (λ s l lines there held is. apart s l lines (subst (λ (rs : List Reservation). Contains rs s) (pending_then ∙ sym (ap (λ (p : Pending). p.reserved) pending_y)) there) (subst (λ (ls : List Lock). Contains ls l) next_y.locks held) is);
    within = subst (λ (p : Pending). All (LiesInReserved y) (map reserved_object p.reserved)) (sym pending_over) (all_reserved (LiesInReserved y) (pending_before v).reserved lies);
  }
