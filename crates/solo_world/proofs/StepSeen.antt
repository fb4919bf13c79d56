-- What tells the lane's view something, and no more, keeps the world: operations, the stop word as seen, and the numbers that were drawn.
use Rattle.std.proofs.Common.{◌≡◌, ℕ, ◌+◌, ◌<◌, ◌≤◌, ◌⊎◌, inl, inr, ⊎_elim, le_refl, Bool, true, false, ltb, All, Option, None, is_none, List, [], ◌∷◌, ◌++◌, length, refl, sym, ap, ◌∙◌, subst, arith}
use Rattle.std.specs.List.{list_any}
use Rattle.std.proofs.lemmas.Option.{none-some}
use Rattle.std.proofs.lemmas.Bool.{cases_lt, le-ltb, and_parts, and_from, or_cases, or_from, ltb-true, false≢true}
use Rattle.std.proofs.lemmas.List.Folds.{list_any-append}
use Rattle.std.proofs.lemmas.List.Elements.{All-weaker}
use Rattle.pm_objects.specs.declared.calls.Operation.{Operation}
use Rattle.pm_objects.specs.declared.history.Value.{Value}
use Rattle.solo_view.specs.Log.{Phase, no_log}
use Rattle.solo_view.specs.Log.Phase.{Idle, Open, Drawn, Sealing, Applying, Clearing, Retiring}
use Rattle.solo_view.specs.Steps.{Step}
use Rattle.solo_view.specs.Steps.Step.{NumberSeen, StopSeen, Tell}
use Rattle.solo_view.specs.View.{View, Told, Numbered}
use Rattle.solo_view.specs.Views.{with_seen, begun, actions_told}
use Rattle.solo_world.specs.Course.{flight_in}
use Rattle.solo_world.specs.Entries.{is_redoing, is_redone, seal_in}
use Rattle.solo_world.specs.Fits.{OpenChange, LaneFits, LogFits, PhaseFits}
use Rattle.solo_world.specs.History.{Entry, Flies, settled}
use Rattle.solo_world.specs.Laws.{Keeps, with_view}
use Rattle.solo_world.specs.Lawful.{FilledChange, generation_limit}
use Rattle.solo_world.specs.Memory.{Memory, IsSame}
use Rattle.solo_world.specs.Memory.Location.{CommitCounter, PoolWord}
use Rattle.solo_world.specs.Opening.{Opening}
use Rattle.solo_world.specs.Records.{generation_of, records_generation, used_slots, is_logged_from, is_logged}
use Rattle.solo_world.specs.World.{Views, World, is_low, may_draw, may_draw_count}
use Rattle.solo_world.proofs.Filled.{filled_again, filled_reserved}
use Rattle.solo_world.proofs.Draws.{draws_at_most}
use Rattle.solo_world.proofs.Frame.{coursed_fits}
use Rattle.solo_world.proofs.Numbers.{own_below}
use Rattle.solo_world.proofs.Pairs.{no_entries, none_redone}
use Rattle.solo_world.proofs.Recoursed.{Leaves, recoursed, open_again}
use Rattle.solo_world.proofs.Heaps.{all_same}
use Rattle.solo_world.proofs.Worlds.{heap_here, own, own_numbers, still, room_kept}

-- one more step that saw no low number
pub not_low_more : (seen : List Step) (s : Step) → is_low s ≡ false → list_any is_low (seen ++ s ∷ []) ≡ true → list_any is_low seen ≡ true
not_low_more seen s other e =
    ⊎_elim (λ (before : list_any is_low seen ≡ true). before)
    (λ (last : list_any is_low (s ∷ []) ≡ true). ⊎_elim (λ (this : is_low s ≡ true). absurd (false≢true (sym other ∙ this))) (λ (none : list_any is_low [] ≡ true). absurd (false≢true none)) (or_cases (is_low s) (list_any is_low []) last))
    (or_cases (list_any is_low seen) (list_any is_low (s ∷ [])) (sym (list_any-append is_low seen (s ∷ [])) ∙ e))

module _ (o : Opening) (old : Memory) (views : Views) (log : List Entry) (decided : ℕ → Bool) (world : World o old views log decided) (k : ℕ) (inside : k < o.lanes) (v : View) (is : views k ≡ v) where
  -- what the view has of the call, and of what it was told
  pub told : (new : Memory) (seen : List Step) (call : List Told) (actions : List Told) → IsSame old new
      → old CommitCounter + may_draw_count (with_view views k (record v { seen = seen; call = call; actions = actions })) o.lanes < generation_limit + 32
      → World o new (with_view views k (record v { seen = seen; call = call; actions = actions })) log decided
  told new seen call actions same room =
      let v' : View = record v { seen = seen; call = call; actions = actions } in
      let leaves : Leaves v v' v.changes = record {
        slots = λ slot e. e;
        none = λ empty. empty;
        filled = λ all. All-weaker (FilledChange v) (FilledChange v') (λ c of. filled_again v v' c (λ own. own) (λ silent. silent) of) v.changes all;
        open_ = λ all. All-weaker (OpenChange v) (OpenChange v') (λ c of. open_again v v' c refl (λ w logged. logged) (λ own. record { reserved = own.reserved; plain = own.plain }) of) v.changes all;
        retiring = λ all n d low. let c = all n d low in record { whole = c.whole; of = c.of; before = c.before };
        sealed = λ before all n d low. let c = all n d low in record { whole = c.whole; of = c.of; before = c.before };
        applied = λ count all n d low. let c = all n d low in record { of = c.of; bits = c.bits; next = c.next };
        fewer = le_refl (length v.changes);
      } in
      let mine : LaneFits o old (settled o log decided) (Flies log decided k) k v = own o old views log decided world k inside v is in
      recoursed o old views log decided world k inside v is new v.changes v.calls seen call actions same leaves mine.within (le_refl v.calls) room

  own_found : (n : ℕ) → n ≡ old CommitCounter → All (λ (e : Numbered). e.number ≤ n) v.entries
  own_found n seen =
      let counter = world.counter in
      All-weaker (λ (e : Numbered). e.number < 1 + length log) (λ (e : Numbered). e.number ≤ n) (λ e low. omega arith) v.entries
      (subst (All (λ (e : Numbered). e.number < 1 + length log)) (own_numbers o old views log decided world k inside v is) (own_below 1 k log world.numbered))

  -- that it saw a number below the limit, as the counter has it, leaves room
  low_room : (v' : View) (n : ℕ) → n ≡ old CommitCounter → (may_draw v' ≡ true → (n < generation_limit) ⊎ (may_draw v ≡ true))
      → old CommitCounter + may_draw_count (with_view views k v') o.lanes < generation_limit + 32
  low_room v' n seen may =
      ⊎_elim (λ (low : n < generation_limit). let few = draws_at_most (with_view views k v') o.lanes in let most = world.sound.most_lanes in omega arith)
      (λ (high : generation_limit ≤ n). room_kept o old views log decided world k inside v is v'
      (λ can. ⊎_elim (λ (low : n < generation_limit). absurd (omega arith)) (λ (could : may_draw v ≡ true). could) (may can)))
      (cases_lt n generation_limit)

  -- a call begins
  begins : (new : Memory) (n : ℕ) → IsSame old new → n ≡ old CommitCounter → v.log.phase ≡ Idle
      → World o new (with_view views k (with_seen (NumberSeen n) (begun Idle v))) log decided
  begins new n same seen idle =
      let v' : View = with_seen (NumberSeen n) (begun Idle v) in
      let mine : LaneFits o old (settled o log decided) (Flies log decided k) k v = own o old views log decided world k inside v is in
      let idle_fits = subst (PhaseFits (Flies log decided k) v) idle mine.phase in
      let log_fits : LogFits (settled o log decided) v (generation_of v) = subst (λ p. LogFits (settled o log decided) v (records_generation p v)) idle mine.log in
      still o old views log decided world k inside v is v' new same
      (coursed_fits o old (settled o log decided) (Flies log decided k) k v v.changes v.calls (no_log (Open [] [])) (NumberSeen n ∷ []) [] None v.entries v.actions mine
      (record {
        most = omega arith;
        stored = λ slot r there. absurd (none-some r there);
        each = λ slot r there. absurd (none-some r there);
        once = λ slot other r q w there. absurd (none-some r there);
        stale = λ slot u low high there. log_fits.stale slot u (subst (λ p. used_slots p v ≤ slot) (sym idle) (let none = ap length idle_fits.no_records in omega arith)) high there;
      })
      (no_entries v v' refl refl (mine.entries.seal ∙ ap (λ p. seal_in p v) idle) tt)
      (λ w again. absurd (false≢true again))
      (record {
        undrawn = refl;
        short = omega arith;
        stands = λ i low. absurd (omega arith);
        short_pair = omega arith;
        in_pairs = omega arith;
        pair_stands = λ i low. absurd (omega arith);
        changes = All-weaker (FilledChange v) (OpenChange v') (λ c of. record { whole = of.whole; of = inr (inr (inr (filled_reserved v' c (filled_again v v' c (λ own. own) (λ silent. silent) of)))) }) v.changes idle_fits.changes;
      })
      mine.room mine.within)
      (λ w un. or_from (is_logged v w) (is_redone v w) (ap (λ records. is_logged_from v 0 records w) idle_fits.no_records) (none_redone v w (ap is_redoing idle))) refl
      (λ m flying. absurd (none-some m (sym (ap (λ p. flight_in p v.number) idle) ∙ flying)))
      (low_room v' n seen (λ can. inl (let t = or_cases (is_low (NumberSeen n)) false can in ⊎_elim (λ (low : ltb n generation_limit ≡ true). ltb-true n generation_limit low) (λ (none : false ≡ true). absurd (false≢true none)) t))) refl refl (le_refl v.calls) (heap_here o old views log decided world k inside v is v' new (λ w. same (PoolWord w)) (all_same old new same) (record { lanes = refl; reserved = refl; freed = refl; zones = refl }))

pub tells : (operation : Operation) (reply : Option Value) → Keeps (Tell operation reply)
tells operation reply o old new views log decided k v world inside is lawful same = (
  told o old views log decided world k inside v is new v.seen (v.call ++ record { operation = operation; reply = reply } ∷ []) (actions_told operation reply v.actions) same
      (room_kept o old views log decided world k inside v is (record v { call = v.call ++ record { operation = operation; reply = reply } ∷ []; actions = actions_told operation reply v.actions }) (λ can. can)),
  tt,
)

pub sees_stops : (stopped : Bool) → Keeps (StopSeen stopped)
sees_stops stopped o old new views log decided k v world inside is lawful moves = (
  told o old views log decided world k inside v is new (v.seen ++ StopSeen stopped ∷ []) v.call v.actions moves.0
      (room_kept o old views log decided world k inside v is (record v { seen = v.seen ++ StopSeen stopped ∷ [] })
      (λ can. let t = and_parts (is_none v.number) (list_any is_low (v.seen ++ StopSeen stopped ∷ [])) can in and_from (is_none v.number) (list_any is_low v.seen) t.0 (not_low_more v.seen (StopSeen stopped) refl t.1))),
  tt,
)

module _ (o : Opening) (old : Memory) (views : Views) (log : List Entry) (decided : ℕ → Bool) (world : World o old views log decided) (k : ℕ) (inside : k < o.lanes) (v : View) (is : views k ≡ v) where
  -- another number seen while a call is open, or before its log is retired
  seen_again : (new : Memory) (n : ℕ) → IsSame old new → n ≡ old CommitCounter → World o new (with_view views k (with_seen (NumberSeen n) v)) log decided
  seen_again new n same seen = told o old views log decided world k inside v is new (v.seen ++ NumberSeen n ∷ []) v.call v.actions same
      (low_room o old views log decided world k inside v is (record v { seen = v.seen ++ NumberSeen n ∷ [] }) n seen
      (λ can. let t = and_parts (is_none v.number) (list_any is_low (v.seen ++ NumberSeen n ∷ [])) can in
      ⊎_elim (λ (low : n < generation_limit). inl low) (λ (high : generation_limit ≤ n). inr (and_from (is_none v.number) (list_any is_low v.seen) t.0 (not_low_more v.seen (NumberSeen n) (le-ltb n generation_limit high) t.1))) (cases_lt n generation_limit)))

  number_at : (new : Memory) (n : ℕ) → IsSame old new → n ≡ old CommitCounter → (phase : Phase) → v.log.phase ≡ phase → World o new (with_view views k (with_seen (NumberSeen n) (begun phase v))) log decided
  number_at new n same seen Idle e = begins o old views log decided world k inside v is new n same seen e
  number_at new n same seen (Open slot pair) e = seen_again new n same seen
  number_at new n same seen Drawn e = seen_again new n same seen
  number_at new n same seen Sealing e = seen_again new n same seen
  number_at new n same seen (Applying applied) e = seen_again new n same seen
  number_at new n same seen Clearing e = seen_again new n same seen
  number_at new n same seen Retiring e = seen_again new n same seen

pub sees_numbers : (n : ℕ) → Keeps (NumberSeen n)
sees_numbers n o old new views log decided k v world inside is lawful moves =
    (number_at o old views log decided world k inside v is new n moves.0 moves.1 v.log.phase refl, own_found o old views log decided world k inside v is n moves.1)
