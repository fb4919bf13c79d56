-- What the slot of a lane's record says when it is read back.
use Rattle.std.proofs.Common.{◌≡◌, ℕ, ◌+◌, ◌-◌, ◌*◌, ◌/◌, ◌%◌, ◌≤◌, eqb, leb, ltb, true, cond, ◌&&◌, List, [], ◌∷◌, ◌++◌, length, replicate, slice_index, Option, Some, None, refl, sym, ap, ◌∙◌, arith, length-append}
use Rattle.std.specs.Option.{option_and_then}
use Rattle.std.proofs.lemmas.Bool.{cond-true, eq-eqb, eqb-true, and_parts, and_from, leb-true, ltb-true, le-leb, lt-ltb}
use Rattle.std.proofs.lemmas.Option.{none-some, cond_some}
use Rattle.std.proofs.lemmas.List.{length-replicate, get_or_append_left}
use Rattle.pm_record.specs.Undo.{undo_words, undo_of}
use Rattle.pm_record.specs.declared.undo.Undo.{Undo}
use Rattle.solo_view.specs.Log.{Recorded}
use Rattle.pm_image.specs.Logs as logs
use Rattle.pm_image.specs.Logs.{undo_slot, generation, old_word}
use Rattle.pm_image.specs.Steps.{valid_record}
use Rattle.solo_world.specs.Records.{covers, spelled}

-- the record of these words in this generation
abbrev pub undo_from : ℕ → Recorded → Undo
undo_from generation r = record { generation = generation; place = 8 * r.word; count = length r.old; old = r.old ++ replicate (4 - length r.old) 0 }

undo_again : (generation place count : ℕ) (old : List ℕ) → length old ≡ 4
    → undo_of (undo_words (record { generation = generation; place = place; count = count; old = old })) ≡ Some (record { generation = generation; place = place; count = count; old = old })
undo_again generation place count [] four = absurd (omega arith)
undo_again generation place count (a ∷ []) four = absurd (omega arith)
undo_again generation place count (a ∷ b ∷ []) four = absurd (omega arith)
undo_again generation place count (a ∷ b ∷ c ∷ []) four = absurd (omega arith)
undo_again generation place count (a ∷ b ∷ c ∷ d ∷ []) four =
    let sum : ℕ = slice_index (undo_words (record { generation = generation; place = place; count = count; old = a ∷ b ∷ c ∷ d ∷ [] })) 7 in
    ap (λ t. cond t (Some (record { generation = generation; place = place; count = count; old = a ∷ b ∷ c ∷ d ∷ [] })) None) (eq-eqb sum sum refl)
undo_again generation place count (a ∷ b ∷ c ∷ d ∷ e ∷ old) four = absurd (omega arith)

pub undo_of-spelled : (generation : ℕ) (r : Recorded) → length r.old ≤ 4 → undo_of (spelled generation r) ≡ Some (undo_from generation r)
undo_of-spelled generation r most =
    undo_again generation (8 * r.word) (length r.old) (r.old ++ replicate (4 - length r.old) 0)
    (let whole = length-append r.old (replicate (4 - length r.old) 0) in let zeros = length-replicate {A = ℕ} (4 - length r.old) 0 in omega (arith, whole, zeros))

-- a valid record is the slot's, of the lane's generation
pub valid_from : (words : List ℕ) (lane slot : ℕ) (u : Undo) → undo_of (undo_slot words lane slot) ≡ Some u → u.generation ≡ generation words lane → valid_record words lane slot ≡ Some u
valid_from words lane slot u stands same =
    ap (option_and_then (λ (v : Undo). cond (eqb v.generation (generation words lane)) (Some v) None)) stands ∙ cond-true _ _ _ (eq-eqb u.generation (generation words lane) same)

pub record ValidRecord (words : List ℕ) (lane slot : ℕ) (u : Undo) : Type 0 where
  pub stands : undo_of (undo_slot words lane slot) ≡ Some u
  pub present : u.generation ≡ generation words lane

pub valid_parts : (words : List ℕ) (lane slot : ℕ) (u : Undo) → valid_record words lane slot ≡ Some u → ValidRecord words lane slot u
valid_parts words lane slot u valid = go (undo_of (undo_slot words lane slot)) refl valid where
  go : (o : Option Undo) → undo_of (undo_slot words lane slot) ≡ o → option_and_then (λ (v : Undo). cond (eqb v.generation (generation words lane)) (Some v) None) o ≡ Some u → ValidRecord words lane slot u
  go None is e = absurd (none-some u e)
  go (Some v) is e =
      let t = cond_some (eqb v.generation (generation words lane)) v u e in
      record { stands = is ∙ ap Some t.1; present = ap (λ (x : Undo). x.generation) (sym t.1) ∙ eqb-true v.generation (generation words lane) t.0 }

place_of : (a w : ℕ) → a ≤ w → (8 * w - 8 * a) / 8 ≡ w - a
place_of a w low = omega arith

-- it covers the words that the record is of
pub covers_from : (generation : ℕ) (r : Recorded) (w : ℕ) → length r.old ≤ 4 → covers r w ≡ true → logs.covers (undo_from generation r) (8 * w) ≡ true
covers_from generation r w most e =
    let t = and_parts (leb r.word w) (ltb w (r.word + length r.old)) e in
    let low = leb-true r.word w t.0 in
    let high = ltb-true w (r.word + length r.old) t.1 in
    let at = place_of r.word w low in
    and_from _ _ (and_from _ _ (and_from _ _ (le-leb (8 * r.word) (8 * w) (omega arith)) (lt-ltb ((8 * w - 8 * r.word) / 8) (length r.old) (omega arith))) (lt-ltb ((8 * w - 8 * r.word) / 8) 4 (omega arith)))
    (eq-eqb ((8 * w - 8 * r.word) % 8) 0 (omega arith))

pub covers_back : (generation : ℕ) (r : Recorded) (w : ℕ) → logs.covers (undo_from generation r) (8 * w) ≡ true → covers r w ≡ true
covers_back generation r w e =
    let p = and_parts (leb (8 * r.word) (8 * w) && ltb ((8 * w - 8 * r.word) / 8) (length r.old) && ltb ((8 * w - 8 * r.word) / 8) 4) (eqb ((8 * w - 8 * r.word) % 8) 0) e in
    let q = and_parts (leb (8 * r.word) (8 * w) && ltb ((8 * w - 8 * r.word) / 8) (length r.old)) (ltb ((8 * w - 8 * r.word) / 8) 4) p.0 in
    let s = and_parts (leb (8 * r.word) (8 * w)) (ltb ((8 * w - 8 * r.word) / 8) (length r.old)) q.0 in
    let low = leb-true (8 * r.word) (8 * w) s.0 in
    let from : r.word ≤ w = omega arith in
    let at = place_of r.word w from in
    let high = ltb-true ((8 * w - 8 * r.word) / 8) (length r.old) s.1 in
    and_from (leb r.word w) (ltb w (r.word + length r.old)) (le-leb r.word w from) (lt-ltb w (r.word + length r.old) (omega arith))

-- and has their old values
pub old_from : (generation : ℕ) (r : Recorded) (w : ℕ) → covers r w ≡ true → old_word (undo_from generation r) (8 * w) ≡ slice_index r.old (w - r.word)
old_from generation r w e =
    let t = and_parts (leb r.word w) (ltb w (r.word + length r.old)) e in
    let low = leb-true r.word w t.0 in
    let high = ltb-true w (r.word + length r.old) t.1 in
    ap (slice_index (r.old ++ replicate (4 - length r.old) 0)) (place_of r.word w low) ∙ get_or_append_left r.old (replicate (4 - length r.old) 0) 0 (w - r.word) (omega arith)
