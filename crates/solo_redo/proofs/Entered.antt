-- An entry may be stored behind the others, and what that leaves.
use Rattle.std.proofs.Common.{◌≡◌, ◌≢◌, ℕ, ◌+◌, ◌*◌, ◌/◌, ◌%◌, ◌^◌, ◌<◌, ◌≤◌, ⊎_elim, [], ◌∷◌, ◌++◌, length, length-append, slice_index, refl, sym, ap, ◌∙◌, subst, arith, get_or-set_other, ◌⊎◌, inl, inr, IsTrue}
use Rattle.std.proofs.lemmas.Bool.{false≢true}
use Rattle.pm_record.specs.Redo.{op_code}
use Rattle.pm_record.specs.declared.redo.Op.{Op}
use Rattle.pm_record.specs.declared.redo.Op.TheVariants.{Set, Or, And}
use Rattle.pm_record.specs.declared.redo.Redo.{Redo}
use Rattle.solo_view.specs.Area.{area_word, is_in_area, part_of}
use Rattle.solo_view.specs.Area.Part.{EntryWord}
use Rattle.solo_view.specs.Changes.{store_change}
use Rattle.solo_view.specs.Log.{Final, Log, final_of, log_stored}
use Rattle.solo_view.specs.Log.Phase.{Open}
use Rattle.solo_view.specs.Steps.Step.{Store}
use Rattle.solo_view.specs.View.{View}
use Rattle.solo_view.specs.Views.{after, after_all}
use Rattle.solo_world.specs.Entries.{IsEnterable, entry_word, final_by, EntersAlone, IsGrowing}
use Rattle.solo_world.specs.Lawful.{MayStore, StoreFits}
use Rattle.solo_world.specs.Records.{generation_of}
use Rattle.solo_world.specs.Sequences.{Ready, by_lane, by_view, stores}
use Rattle.solo_view.specs.Rights.{is_written}
use Rattle.solo_world.proofs.Going.{goes_then}
use Rattle.solo_undo.specs.Working.{HasMadeRoom, IsSettled}
use Rattle.solo_undo.proofs.Kept.{area_kept}
use Rattle.solo_undo.proofs.Staying.{same_call-then, same_changed}
use Rattle.solo_undo.proofs.Storing.{Is, goes_stores}
use Rattle.solo_redo.specs.Entering.{HasEntered, IsEntering, final_of as final_for}
use Rattle.solo_redo.specs.Sequences.{puts, stores_two, writes_pair}
use Rattle.solo_redo.proofs.PairWords.{pair_part}

-- where fewer changes are undrained than may be, no room has to be made
pub room_is_there : (v m : View) → length v.changes < 512 → HasMadeRoom v m → m ≡ v
room_is_there v m few made = ⊎_elim (λ (e : m ≡ v). e) (λ (full : (512 ≤ length v.changes) × IsSettled v m). absurd (let f = full.0 in omega (arith, f, few))) made.1

-- an operation's number fits beside the place, and names what the entry makes
code_low : (op : Op) → op_code op < 8
code_low Set = omega arith
code_low Or = omega arith
code_low And = omega arith

final_coded : (op : Op) (w x : ℕ) → final_of (op_code op) w x ≡ final_by op w x
final_coded Set w x = refl
final_coded Or w x = refl
final_coded And w x = refl

module _ (v : View) (e : Redo) (entering : IsEntering v) (free : length v.log.entries < 64) (aligned : e.place % 8 ≡ 0) (may : IsEnterable v e.op (e.place / 8) e.value) where
  abbrev n : ℕ
  n = length v.log.entries

  abbrev w : ℕ
  w = entry_word v.lane n

  -- the first word of the pair
  abbrev a : ℕ
  a = e.place + op_code e.op

  abbrev v₁ : View
  v₁ = after v (Store w a)

  abbrev v₂ : View
  v₂ = after v₁ (Store (w + 1) e.value)

  first_word : a ≡ 8 * (e.place / 8) + op_code e.op
  first_word = let whole = aligned in omega (arith, whole)

  low : w + 2 ≤ length v.words
  low = let area = entering.area.inside in omega (arith, area, free)

  part₁ : part_of v.lane w ≡ EntryWord
  part₁ = (pair_part v.lane n 0 w free (omega arith) (omega arith)).0

  part₂ : part_of v.lane (w + 1) ≡ EntryWord
  part₂ = (pair_part v.lane n 1 (w + 1) free (omega arith) refl).0

  log₁ : v₁.log ≡ record v.log { phase = Open [] (a ∷ []) }
  log₁ = ap (λ part. log_stored v.log.phase part a v.log) part₁ ∙ ap (λ phase. log_stored phase EntryWord a v.log) entering.is_open

  stored : v₂.log ≡ record v.log { phase = Open [] []; entries = v.log.entries ++ final_for e ∷ [] }
  stored =
      ap (λ part. log_stored v₁.log.phase part e.value v₁.log) part₂
      ∙ (ap (λ (l : Log). log_stored l.phase EntryWord e.value l) log₁ ∙ ap (λ (f : Final). let l : Log = record v.log { phase = Open [] []; entries = v.log.entries ++ f ∷ [] } in l) is_final) where
        is_final : final_of (a % 8) (a / 8) e.value ≡ final_for e
        is_final =
            let small = code_low e.op in
            let rest : a % 8 ≡ op_code e.op = let f = first_word in omega (arith, f, small) in
            let whole : a / 8 ≡ e.place / 8 = let f = first_word in omega (arith, f, small) in
            (λ i. final_of (rest i) (whole i) e.value) ∙ final_coded e.op (e.place / 8) e.value

  fits₁ : MayStore v w a
  fits₁ = record {
    inside = omega (arith, low);
    room = let few = entering.few in omega (arith, few, free);
    fits = subst (λ p. StoreFits v w a v.log.phase p) (sym part₁) (subst (λ phase. StoreFits v w a phase EntryWord) (sym entering.is_open)
        (record {
          op = e.op;
          word = e.place / 8;
          value = e.value;
          may = may;
          spells = ap (λ (x : ℕ). x ∷ []) first_word;
          at = omega arith;
          free = free;
          below = entering.area.below;
        }));
  }

  fits₂ : MayStore v₁ (w + 1) e.value
  fits₂ = record {
    inside = let size = (same_changed v w a (store_change w (slice_index v.words w) a) v₁.log).lane.size in omega (arith, low, size);
    room = let few = entering.few in let one = length-append v.changes (store_change w (slice_index v.words w) a ∷ []) in omega (arith, few, free, one);
    fits = subst (λ p. StoreFits v₁ (w + 1) e.value v₁.log.phase p) (sym part₂) (subst (λ phase. StoreFits v₁ (w + 1) e.value phase EntryWord) (sym (ap (λ (l : Log). l.phase) log₁))
        (record {
          op = e.op;
          word = e.place / 8;
          value = e.value;
          may = record {
            of = ⊎_elim (λ (own : IsTrue (is_written v (e.place / 8))). inl own) (λ (other : ((e.place / 8 ≡ area_word v.lane) × (e.op ≡ Set)) ⊎ EntersAlone v (e.place / 8)). inr (
                ⊎_elim (λ (ends : (e.place / 8 ≡ area_word v.lane) × (e.op ≡ Set)). inl ends) (λ (alone : EntersAlone v (e.place / 8)). inr (alone.0, subst IsGrowing (sym (ap (λ (l : Log). l.phase) log₁)) tt, alone.2)) other)) may.of;
            word = may.word;
          };
          spells = ap (λ (x : ℕ). x ∷ e.value ∷ []) first_word;
          at = let same = ap (λ (l : Log). length l.entries) log₁ in omega (arith, same);
          free = let same = ap (λ (l : Log). length l.entries) log₁ in omega (arith, same, free);
          below = subst (λ g. g < 2 ^ 62) (sym (get_or-set_other v.words w (area_word v.lane) a 0 (λ same. omega (arith, same)))) entering.area.below;
        }));
  }

  others : (u : ℕ) → u ≢ w → u ≢ w + 1 → slice_index v₂.words u ≡ slice_index v.words u
  others u one other = get_or-set_other v₁.words (w + 1) u e.value 0 other ∙ get_or-set_other v.words w u a 0 one

  generation : generation_of v₂ ≡ generation_of v
  generation = others (area_word v.lane) (λ same. omega (arith, same)) (λ same. omega (arith, same))

  entered : HasEntered v e v₂
  entered =
      let call = same_call-then v v₁ v₂ (same_changed v w a _ _) (same_changed v₁ (w + 1) e.value _ _) in
      record {
        call = call;
        entering = record {
          is_open = ap (λ (l : Log). l.phase) stored;
          undrawn = entering.undrawn;
          area = area_kept v v₂ call generation entering.area;
          few =
              let few = entering.few in
              let one = length-append v.changes (store_change w (slice_index v.words w) a ∷ []) in
              let two = length-append v₁.changes (store_change (w + 1) (slice_index v₁.words (w + 1)) e.value ∷ []) in
              let more = ap (λ (l : Log). length l.entries) stored ∙ length-append v.log.entries (final_for e ∷ []) in
              omega (arith, few, one, two, more);
        };
        log = stored ∙ ap (λ phase. let l : Log = record v.log { phase = phase; entries = v.log.entries ++ final_for e ∷ [] } in l) (sym entering.is_open);
        outside = λ u out. others u
            (λ same. false≢true (sym out ∙ (ap (is_in_area v.lane) same ∙ (pair_part v.lane n 0 w free (omega arith) (omega arith)).1)))
            (λ same. false≢true (sym out ∙ (ap (is_in_area v.lane) same ∙ (pair_part v.lane n 1 (w + 1) free (omega arith) refl).1)));
        generation = generation;
      }

  pub put_lawful : Ready v (puts n e v) × HasEntered v e (after_all v (puts n e v))
  unfolding puts by_lane by_view writes_pair stores_two
  put_lawful =
      let few : length v.changes < 512 = let f = entering.few in omega (arith, f, free) in
      let few₁ : length v₁.changes < 512 = let room = fits₂.room in room in
      let r = goes_then (Is v) (Is v₁) (Is v₂) (stores w a) (stores (w + 1) e.value)
      (goes_stores (Is v) (Is v₁) w a (λ u m is made. let same : m ≡ v = room_is_there v m few (subst (λ z. HasMadeRoom z m) is made) in subst (λ z. MayStore z w a × Is v₁ (after z (Store w a))) (sym same) (fits₁, refl)))
      (goes_stores (Is v₁) (Is v₂) (w + 1) e.value (λ u m is made. let same : m ≡ v₁ = room_is_there v₁ m few₁ (subst (λ z. HasMadeRoom z m) is made) in subst (λ z. MayStore z (w + 1) e.value × Is v₂ (after z (Store (w + 1) e.value))) (sym same) (fits₂, refl)))
      v refl in
      (r.0, subst (HasEntered v e) (sym r.1) entered)
