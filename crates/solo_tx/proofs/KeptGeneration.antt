-- A log is written into the pairs of the lane's area, and leaves its generation as it was, from whatever view.
use Rattle.std.proofs.Common.{◌≡◌, ◌≢◌, ℕ, zero, suc, ◌+◌, ⊎_elim, List, [], ◌∷◌, ◌++◌, length, slice_index, refl, sym, ap, ◌∙◌, arith, get_or-set_other}
use Rattle.std.proofs.lemmas.List.{set-get_or}
use Rattle.pm_record.specs.declared.redo.Redo.{Redo}
use Rattle.pm_record.specs.Redo.{op_code}
use Rattle.solo_redo.specs.Sequences.{ending_of, entry_at, logs, stores_two, writes_entries, writes_log, writes_pair, writes_pairs}
use Rattle.solo_undo.proofs.Settled.{room_lawful, settle_lawful}
use Rattle.solo_undo.specs.Sequences.{with_generation}
use Rattle.solo_undo.specs.Working.{IsSettled}
use Rattle.solo_view.proofs.SameLane.{same_lane-after_all}
use Rattle.solo_view.proofs.Sequences.{after_all-append}
use Rattle.solo_view.specs.Area.{area_word}
use Rattle.solo_view.specs.Steps.Step.{Store}
use Rattle.solo_view.specs.View.{View}
use Rattle.solo_view.specs.Views.{after_all}
use Rattle.solo_world.specs.Entries.{entry_word}
use Rattle.solo_world.specs.Records.{generation_of}
use Rattle.solo_world.specs.Sequences.{Sequence, by_lane, by_view, counted, in_turn, looks, makes_room, nothing, one, settles, stores, with_word}

-- the word is as it was
abbrev KeepsWord : ℕ → Sequence → Type 0
KeepsWord g steps = (v : View) → slice_index (after_all v (steps v)).words g ≡ slice_index v.words g

module _ (g : ℕ) where
  keeps_in_turn : (s t : Sequence) → KeepsWord g s → KeepsWord g t → KeepsWord g (in_turn s t)
  unfolding in_turn
  keeps_in_turn s t first second v =
      ap (λ (w : View). slice_index w.words g) (after_all-append v (s v) (t (after_all v (s v)))) ∙ (second (after_all v (s v)) ∙ first v)

  keeps_counted : (steps : ℕ → Sequence) (n : ℕ) → ((i : ℕ) → KeepsWord g (steps i)) → KeepsWord g (counted steps n)
  unfolding counted nothing after_all
  keeps_counted steps zero each v = refl
  keeps_counted steps (suc n) each v = keeps_in_turn (counted steps n) (steps n) (keeps_counted steps n each) (each n) v

  keeps_looks : (w : ℕ) → KeepsWord g (looks w)
  unfolding looks after_all
  keeps_looks w v = ap (λ (words : List ℕ). slice_index words g) (set-get_or v.words w 0)

  settled_keeps : (v w : View) → IsSettled v w → slice_index w.words g ≡ slice_index v.words g
  settled_keeps v w settled = ap (λ (u : View). slice_index u.words g) settled

  keeps_settles : KeepsWord g settles
  keeps_settles v = settled_keeps v (after_all v (settles v)) (settle_lawful v).1

  keeps_makes_room : KeepsWord g makes_room
  keeps_makes_room v = ⊎_elim (λ same. ap (λ (u : View). slice_index u.words g) same) (λ full. settled_keeps v (after_all v (makes_room v)) full.1) (room_lawful v).1.1

  keeps_store : (w x : ℕ) → w ≢ g → KeepsWord g (one (Store w x))
  unfolding one after_all
  keeps_store w x other v = get_or-set_other v.words w g x 0 (λ same. other (sym same))

  keeps_stores : (w x : ℕ) → w ≢ g → KeepsWord g (stores w x)
  unfolding stores
  keeps_stores w x other = keeps_in_turn makes_room (one (Store w x)) keeps_makes_room (keeps_store w x other)

-- of an entry's pair no word is that of the generation
keeps_pair : (lane i : ℕ) (e : Redo) → KeepsWord (area_word lane) (writes_pair lane i e)
unfolding writes_pair stores_two
keeps_pair lane i e =
    let g : ℕ = area_word lane in
    let word : ℕ = entry_word lane i in
    keeps_in_turn g (stores word (e.place + op_code e.op)) (stores (word + 1) e.value)
    (keeps_stores g word (e.place + op_code e.op) (λ same. omega (arith, same))) (keeps_stores g (word + 1) e.value (λ same. omega (arith, same)))

keeps_entries : (lane : ℕ) (all : List Redo) → KeepsWord (area_word lane) (writes_entries lane all)
unfolding writes_entries writes_pairs
keeps_entries lane all =
    keeps_in_turn (area_word lane) (writes_pairs lane all) settles
    (keeps_counted (area_word lane) (λ i. writes_pair lane i (entry_at all i)) (length all) (λ i. keeps_pair lane i (entry_at all i))) (keeps_settles (area_word lane))

pub logs_generation : (entries : List Redo) (v : View) → generation_of (after_all v (logs entries v)) ≡ generation_of v
unfolding logs with_generation by_lane with_word by_view
logs_generation entries v =
    let g : ℕ = area_word v.lane in
    ap (λ (lane : ℕ). slice_index (after_all v (logs entries v)).words (area_word lane)) (same_lane-after_all v (logs entries v)).lane
    ∙ keeps_in_turn g (looks g) (writes_log entries v.lane (slice_index v.words g)) (keeps_looks g g) (keeps_entries v.lane (entries ++ ending_of v.lane (slice_index v.words g) ∷ [])) v
