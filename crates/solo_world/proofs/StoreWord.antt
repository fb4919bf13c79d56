-- A store of a word whose record is drained, under a lock held for writing.
use Rattle.std.proofs.Common.{◌≡◌, ◌≢◌, ℕ, ◌+◌, ◌*◌, ◌/◌, ◌<◌, ◌≤◌, ◌⊎◌, inl, inr, Bool, true, false, not, List, [], ◌∷◌, ◌++◌, length, slice_index, refl, sym, ap, ◌∙◌, subst, arith, ne_eqb}
use Rattle.std.specs.List.{list_any}
use Rattle.std.proofs.lemmas.Bool.{not-true, not_from_false, or_from, or_parts, false≢true}
use Rattle.std.proofs.lemmas.List.Elements.{All-push, All-weaker}
use Rattle.std.proofs.lemmas.List.Folds.{list_any-append}
use Rattle.solo_view.specs.declared.change.Change.{Change}
use Rattle.solo_view.specs.Area.{area_word}
use Rattle.solo_view.specs.Changes.{store_change, is_in_line}
use Rattle.solo_view.specs.Counts.{MayCount, HasRoom}
use Rattle.solo_view.specs.Log.Phase.{Open}
use Rattle.solo_view.specs.View.{View}
use Rattle.solo_view.specs.Views.{changed}
use Rattle.pm_image.specs.Logs.{slot_line}
use Rattle.solo_world.specs.Entries.{entry_word, is_redoing, is_redone}
use Rattle.solo_world.specs.Fits.{OpenChange, LaneFits, LogFits, PhaseFits}
use Rattle.solo_world.specs.History.{Entry, Flies, settled}
use Rattle.solo_world.specs.Laws.{with_view}
use Rattle.solo_world.specs.Lawful.{MayWrite, generation_limit}
use Rattle.solo_world.specs.Memory.{Memory, Becomes}
use Rattle.solo_world.specs.Memory.Location.{PoolWord}
use Rattle.solo_world.specs.Opening.{Opening}
use Rattle.solo_world.specs.Records.{generation_of, slot_word, is_logged, records_generation}
use Rattle.solo_world.specs.World.{Views, World}
use Rattle.solo_world.proofs.Exclusion.{writes_under}
use Rattle.solo_world.proofs.Pairs.{entries_again, in_log_before, none_redone}
use Rattle.solo_world.proofs.Recoursed.{logged_upto, open_again, used_again}
use Rattle.solo_world.proofs.Stored.{IsPlainWord, change_still, other_word, log_beside, stored_fits, stored_world}
use Rattle.solo_world.proofs.Worlds.{own}

-- one more change, of a word of another line, leaves a slot drained
pub drained_more : (lane slot : ℕ) (changes : List Change) (c : Change) → c.word / 8 ≢ slot_line lane slot → not (list_any (λ d. is_in_line (slot_line lane slot) d) changes) ≡ true → not (list_any (λ d. is_in_line (slot_line lane slot) d) (changes ++ c ∷ [])) ≡ true
drained_more lane slot changes c apart e =
    not_from_false _ (list_any-append (λ d. is_in_line (slot_line lane slot) d) changes (c ∷ [])
    ∙ or_from (list_any (λ d. is_in_line (slot_line lane slot) d) changes) (list_any (λ d. is_in_line (slot_line lane slot) d) (c ∷ [])) (not-true _ e) (or_from (is_in_line (slot_line lane slot) c) false (ne_eqb (c.word / 8) (slot_line lane slot) apart) refl))

module _ (o : Opening) (old : Memory) (views : Views) (log : List Entry) (decided : ℕ → Bool) (world : World o old views log decided) (k : ℕ) (inside : k < o.lanes) (v : View) (is : views k ≡ v)
    (new : Memory) (w x : ℕ) (moves : Becomes (PoolWord w) x old new) (in_pool : w < length v.words) (may : MayCount v) (room : HasRoom v.changes) where
  pub stores_word : (slot pair : List ℕ) → v.log.phase ≡ Open slot pair → MayWrite v w → World o new (with_view views k (changed v w x (store_change w (slice_index v.words w) x) v.log)) log decided
  stores_word slot pair e writes =
      let mine : LaneFits o old (settled o log decided) (Flies log decided k) k v = own o old views log decided world k inside v is in
      let v' : View = changed v w x (store_change w (slice_index v.words w) x) v.log in
      let at_lane = mine.lane.lane in
      let under = writes_under o old k v w mine.locks writes.own in
      let behind = world.sound.behind_areas under.0 w under.1 in
      let right : IsPlainWord v w = inr (inl writes.own) in
      let most = mine.log.most in
      let logged : (u : ℕ) → is_logged v u ≡ true → is_logged v' u ≡ true = λ u. logged_upto v v' 0 v.log.records
      (λ s low. drained_more v.lane s v.changes (store_change w (slice_index v.words w) x) (λ same. absurd (omega arith))) u in
      let apart : (s : ℕ) → s < 64 → (w < 8 * slot_line v.lane s) ⊎ (8 * slot_line v.lane s + 8 ≤ w) = λ s low. inr (omega arith) in
      let fits = subst (PhaseFits (Flies log decided k) v) e mine.phase in
      let others : (u : ℕ) → u ≢ w → slice_index v'.words u ≡ slice_index v.words u = other_word o old views log decided world k inside v is new w x moves in_pool may room in
      let generation : generation_of v' ≡ generation_of v = others (area_word v.lane) (λ same. absurd (omega arith)) in
      stored_world o old views log decided world k inside v is new w x moves in_pool right may room (store_change w (slice_index v.words w) x) v.log
      (stored_fits o old views log decided world k inside v is new w x moves in_pool right may room (store_change w (slice_index v.words w) x) v.log
      (subst (LogFits (settled o log decided) v') (subst (λ p. records_generation p v ≡ records_generation p v') (sym e) (sym generation))
      (log_beside o old views log decided world k inside v is new w x moves in_pool may room (store_change w (slice_index v.words w) x) v.log.phase (records_generation v.log.phase v) apart (used_again v.log.phase v v' refl) mine.log))
      (entries_again v v' refl refl (λ u low high. others u (λ same. absurd (omega arith))) (λ u own_word. own_word) (λ i f at free. inr free) refl (others (area_word v.lane + 1) (λ same. absurd (omega arith))) mine.entries)
      (λ u again. absurd (false≢true (sym (none_redone v u (ap is_redoing e)) ∙ again)))
      (subst (PhaseFits (Flies log decided k) v') (sym e) (record {
        undrawn = fits.undrawn;
        short = fits.short;
        stands = λ i low. others (slot_word v.lane (length v.log.records) + i) (λ same. absurd (let short = fits.short in omega arith)) ∙ fits.stands i low;
        short_pair = fits.short_pair;
        in_pairs = fits.in_pairs;
        pair_stands = λ i low. let short = fits.short_pair in let few = mine.entries.most in
            others (entry_word v.lane (length v.log.entries) + i) (λ same. absurd (omega arith)) ∙ fits.pair_stands i low;
        changes = All-push (OpenChange v') v.changes (store_change w (slice_index v.words w) x)
            (All-weaker (OpenChange v) (OpenChange v') (λ c of. open_again v v' c refl logged (change_still o old views log decided world k inside v is new w x moves in_pool right may room (store_change w (slice_index v.words w) x) v.log c) of) v.changes fits.changes)
            (record { whole = refl; of = inr (inr (inl (logged w writes.logged))) });
      }))
      (subst (λ g. 1 ≤ g) (sym generation) mine.first_generation) (subst (λ g. g ≤ generation_limit) (sym generation) mine.last_generation))
      (λ n flying. flying)
      (λ u heap un. (
        (λ this. false≢true (sym (or_parts (is_logged v' u) (is_redone v' u) un).0 ∙ ap (is_logged v') this ∙ logged w writes.logged)),
        in_log_before v v' u (logged u) (λ redone. redone) un,
      ))
