-- What the words of a slot make of the log, one after another.
use Rattle.std.proofs.Common.{◌≡◌, ℕ, ◌+◌, ◌-◌, ◌*◌, ◌/◌, ◌<◌, ◌≤◌, ◌⊎◌, inl, inr, ⊎_elim, zero, suc, List, [], ◌∷◌, ◌++◌, length, replicate, slice_get, Some, refl, ap, ◌∙◌, arith, length-append}
use Rattle.std.proofs.lemmas.List.{length-replicate}
use Rattle.std.proofs.lemmas.Option.{none-some, same_Some}
use Rattle.pm_record.specs.Undo.{undo_front, undo_words}
use Rattle.pm_record.specs.declared.undo.Undo.{Undo}
use Rattle.solo_view.specs.Log.{Log, Phase, Recorded, with_slot}
use Rattle.solo_view.specs.Log.Phase.{Open}
use Rattle.solo_world.specs.Records.{spelled}

-- fewer than eight words are no record yet
pub slot_short : (log : Log) (slot pair : List ℕ) → length slot < 8 → with_slot log slot pair ≡ record log { phase = Open slot pair }
slot_short log [] pair low = refl
slot_short log (a ∷ []) pair low = refl
slot_short log (a ∷ b ∷ []) pair low = refl
slot_short log (a ∷ b ∷ c ∷ []) pair low = refl
slot_short log (a ∷ b ∷ c ∷ d ∷ []) pair low = refl
slot_short log (a ∷ b ∷ c ∷ d ∷ e ∷ []) pair low = refl
slot_short log (a ∷ b ∷ c ∷ d ∷ e ∷ f ∷ []) pair low = refl
slot_short log (a ∷ b ∷ c ∷ d ∷ e ∷ f ∷ g ∷ []) pair low = refl
slot_short log (a ∷ b ∷ c ∷ d ∷ e ∷ f ∷ g ∷ h ∷ slot) pair low = absurd (omega arith)

-- whatever the phase was
pub slot_anew : (log : Log) (phase : Phase) (slot pair : List ℕ) → with_slot (record log { phase = phase }) slot pair ≡ with_slot log slot pair
slot_anew log phase [] pair = refl
slot_anew log phase (a ∷ []) pair = refl
slot_anew log phase (a ∷ b ∷ []) pair = refl
slot_anew log phase (a ∷ b ∷ c ∷ []) pair = refl
slot_anew log phase (a ∷ b ∷ c ∷ d ∷ []) pair = refl
slot_anew log phase (a ∷ b ∷ c ∷ d ∷ e ∷ []) pair = refl
slot_anew log phase (a ∷ b ∷ c ∷ d ∷ e ∷ f ∷ []) pair = refl
slot_anew log phase (a ∷ b ∷ c ∷ d ∷ e ∷ f ∷ g ∷ []) pair = refl
slot_anew log phase (a ∷ b ∷ c ∷ d ∷ e ∷ f ∷ g ∷ h ∷ []) pair = refl
slot_anew log phase (a ∷ b ∷ c ∷ d ∷ e ∷ f ∷ g ∷ h ∷ i ∷ slot) pair = refl

-- the log with one record more
abbrev pub with_record : Log → Recorded → Log
with_record log r = record log { phase = Open [] []; records = log.records ++ r ∷ [] }

-- eight words are one
whole : (log : Log) (generation word : ℕ) (old : List ℕ) → 1 ≤ length old → length old ≤ 4
    → with_slot log (spelled generation (record { word = word; old = old })) [] ≡ with_record log (record { word = word; old = old })
whole log generation word [] some most = absurd (omega arith)
whole log generation word (a ∷ []) some most = ap (λ u. with_record log (record { word = u; old = a ∷ [] })) (let e : 8 * word / 8 ≡ word = omega arith in e)
whole log generation word (a ∷ b ∷ []) some most = ap (λ u. with_record log (record { word = u; old = a ∷ b ∷ [] })) (let e : 8 * word / 8 ≡ word = omega arith in e)
whole log generation word (a ∷ b ∷ c ∷ []) some most = ap (λ u. with_record log (record { word = u; old = a ∷ b ∷ c ∷ [] })) (let e : 8 * word / 8 ≡ word = omega arith in e)
whole log generation word (a ∷ b ∷ c ∷ d ∷ []) some most = ap (λ u. with_record log (record { word = u; old = a ∷ b ∷ c ∷ d ∷ [] })) (let e : 8 * word / 8 ≡ word = omega arith in e)
whole log generation word (a ∷ b ∷ c ∷ d ∷ e ∷ old) some most = absurd (omega arith)

pub slot_whole : (log : Log) (generation : ℕ) (r : Recorded) → 1 ≤ length r.old → length r.old ≤ 4 → with_slot log (spelled generation r) [] ≡ with_record log r
slot_whole log generation r some most = whole log generation r.word r.old some most

pub length_spelled : (generation : ℕ) (r : Recorded) → length r.old ≤ 4 → length (spelled generation r) ≡ 8
length_spelled generation r most =
    let one = length-append r.old (replicate (4 - length r.old) 0) in let two = length-replicate {A = ℕ} (4 - length r.old) 0 in
    let u : Undo = record { generation = generation; place = 8 * r.word; count = length r.old; old = r.old ++ replicate (4 - length r.old) 0 } in
    let three : length (undo_words u) ≡ length (undo_front u) + 1 = length-append (undo_front u) _ in
    let four : length (undo_front u) ≡ 3 + length (r.old ++ replicate (4 - length r.old) 0) = omega arith in
    three ∙ (let e : length (undo_front u) + 1 ≡ 8 = omega (arith, one, two, four, most) in e)

-- what stands in a list with one more
pub last_or_before : {X : Type 0} (xs : List X) (y : X) (i : ℕ) (x : X) → slice_get (xs ++ y ∷ []) i ≡ Some x → (slice_get xs i ≡ Some x) ⊎ ((i ≡ length xs) × (y ≡ x))
last_or_before [] y zero x e = inr (refl, same_Some y x e)
last_or_before [] y (suc i) x e = absurd (none-some x e)
last_or_before (z ∷ xs) y zero x e = inl e
last_or_before (z ∷ xs) y (suc i) x e = ⊎_elim (λ (there : slice_get xs i ≡ Some x). inl there) (λ (t : (i ≡ length xs) × (y ≡ x)). inr ((let t₀ = t.0 in omega (arith, t₀)), t.1)) (last_or_before xs y i x e)
