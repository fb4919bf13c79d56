-- A word as the logs leave it, while entries and records are looked at one after the other.
use Rattle.std.proofs.Common.{◌≡◌, ◌⊎◌, inl, inr, ⊎_elim, ℕ, ◌+◌, ◌-◌, ◌*◌, ◌/◌, ◌%◌, ◌<◌, ◌≤◌, ◌&&◌, Bool, true, false, cond, eqb, leb, ltb, List, [], ◌∷◌, ◌++◌, length, get_or, take, Option, Some, None, refl, sym, ◌∙◌, ap, subst, arith}
use Rattle.std.specs.List.{filter, find}
use Rattle.std.specs.Option.{unwrap_or, option_or}
use Rattle.std.proofs.lemmas.Bool.{and_parts, leb-true, ltb-true, eqb-true, cases_lt}
use Rattle.std.proofs.lemmas.List.{take_more}
use Rattle.std.proofs.lemmas.List.Elements.{filter-append}
use Rattle.std.proofs.lemmas.List.Folds.{find-append}
use Rattle.pm_record.specs.Redo.{applied}
use Rattle.pm_record.specs.declared.redo.Redo.{Redo}
use Rattle.pm_record.specs.declared.undo.Undo.{Undo}
use Rattle.pm_image.specs.Logs.{covers, recovered_by}
use Rattle.pm_image.specs.Steps.{made, logged, AreRestored, AreAsLogged}
use Rattle.pm_image.proofs.Redoing.{made-append, made_none, made_one}

-- one entry more, for the word or for another
pub made_more : (es : List Redo) (k place word : ℕ) (d : Redo) → k < length es
    → made None (filter (λ e. eqb e.place place) (take (k + 1) es)) word
    ≡ cond (eqb (get_or es k d).place place) (Some (applied (get_or es k d) (unwrap_or (made None (filter (λ e. eqb e.place place) (take k es)) word) word))) (made None (filter (λ e. eqb e.place place) (take k es)) word)
made_more es k place word d inside =
    let mine : Redo → Bool = λ e. eqb e.place place in
    let before : List Redo = filter mine (take k es) in
    let last : Redo = get_or es k d in
    ap (λ (xs : List Redo). made None (filter mine xs) word) (take_more es k d inside)
    ∙ ap (λ (xs : List Redo). made None xs word) (filter-append mine (take k es) (last ∷ []))
    ∙ made-append None before (filter mine (last ∷ [])) word
    ∙ one (mine last) where
      one : (b : Bool) → made (made None (filter (λ e. eqb e.place place) (take k es)) word) (cond b (get_or es k d ∷ []) []) word
          ≡ cond b (Some (applied (get_or es k d) (unwrap_or (made None (filter (λ e. eqb e.place place) (take k es)) word) word))) (made None (filter (λ e. eqb e.place place) (take k es)) word)
      one true = made_one (made None (filter (λ e. eqb e.place place) (take k es)) word) (get_or es k d) word
      one false = made_none (made None (filter (λ e. eqb e.place place) (take k es)) word) word

-- what a record covers lies within four words of its place
covered_near : (u : Undo) (i : ℕ) → covers u (8 * i) ≡ true → (u.place / 8 ≤ i) × (i < u.place / 8 + 4)
covered_near u i is =
    let at : ℕ = 8 * i - u.place in
    let last = and_parts (leb u.place (8 * i) && ltb (at / 8) u.count && ltb (at / 8) 4) (eqb (at % 8) 0) is in
    let third = and_parts (leb u.place (8 * i) && ltb (at / 8) u.count) (ltb (at / 8) 4) last.0 in
    let first = and_parts (leb u.place (8 * i)) (ltb (at / 8) u.count) third.0 in
    let from : u.place ≤ 8 * i = leb-true u.place (8 * i) first.0 in
    let near : (8 * i - u.place) / 8 < 4 = ltb-true (at / 8) 4 third.1 in
    let whole : (8 * i - u.place) % 8 ≡ 0 = eqb-true (at % 8) 0 last.1 in
    (omega arith, omega arith)

uncovered : (u : Undo) (i : ℕ) → (i < u.place / 8) ⊎ (u.place / 8 + 4 ≤ i) → covers u (8 * i) ≡ false
uncovered u i away = go (covers u (8 * i)) refl where
  go : (b : Bool) → covers u (8 * i) ≡ b → b ≡ false
  go false is = refl
  go true is = let near : (u.place / 8 ≤ i) × (i < u.place / 8 + 4) = covered_near u i is in
      absurd (let from = near.0 in let to = near.1 in ⊎_elim (λ below. omega arith) (λ above. omega arith) away)

unplaced : (e : Redo) (i : ℕ) → (i < e.place / 8) ⊎ (e.place / 8 + 1 ≤ i) → eqb e.place (8 * i) ≡ false
unplaced e i away = go (eqb e.place (8 * i)) refl where
  go : (b : Bool) → eqb e.place (8 * i) ≡ b → b ≡ false
  go false is = refl
  go true is = let here : e.place ≡ 8 * i = eqb-true e.place (8 * i) is in
      absurd (⊎_elim (λ below. omega arith) (λ above. omega arith) away)

-- a word is in a stretch, or away from it
in_or_away : (i from to : ℕ) → ((from ≤ i) × (i < to)) ⊎ ((i < from) ⊎ (to ≤ i))
in_or_away i from to =
    ⊎_elim (λ below. inr (inl below)) (λ behind. ⊎_elim (λ inside. inl (behind, inside)) (λ past. inr (inr past)) (cases_lt i to)) (cases_lt i from)

-- one record more
pub records_more : (es : List Redo) (us : List Undo) (image old new : List ℕ) (k : ℕ) (d : Undo) → k < length us → AreAsLogged [] (take k us) es us image old
    → AreRestored es us image old new ((get_or us k d).place / 8) ((get_or us k d).place / 8 + 4) → AreAsLogged [] (take (k + 1) us) es us image new
records_more es us image old new k d inside so_far step = record {
  as_long = step.as_long ∙ so_far.as_long;
  each = λ i short. ⊎_elim (λ (here : ((get_or us k d).place / 8 ≤ i) × (i < (get_or us k d).place / 8 + 4)). inr (step.inside i (subst (λ (n : ℕ). i < n) (sym so_far.as_long) short) here.0 here.1))
      (λ away. ⊎_elim
      (λ (seen : (filter (λ (e : Redo). eqb e.place (8 * i)) [] ≡ []) × (find (λ u. covers u (8 * i)) (take k us) ≡ None) × (get_or old i 0 ≡ get_or image i 0)).
      inl (
        refl,
        ap (find (λ u. covers u (8 * i))) (take_more us k d inside) ∙ find-append (λ u. covers u (8 * i)) (take k us) (get_or us k d ∷ [])
            ∙ ap (λ (o : Option Undo). option_or o (find (λ u. covers u (8 * i)) (get_or us k d ∷ []))) seen.1
            ∙ ap (λ (b : Bool). cond b (Some (get_or us k d)) None) (uncovered (get_or us k d) i away),
        step.outside i away ∙ seen.2,
      ))
      (λ done. inr (step.outside i away ∙ done)) (so_far.each i short))
      (in_or_away i ((get_or us k d).place / 8) ((get_or us k d).place / 8 + 4));
}

-- one entry more
pub entries_more : (es : List Redo) (us : List Undo) (image old new : List ℕ) (k : ℕ) (d : Redo) → k < length es → AreAsLogged (take k es) us es us image old
    → AreRestored es us image old new ((get_or es k d).place / 8) ((get_or es k d).place / 8 + 1) → AreAsLogged (take (k + 1) es) us es us image new
entries_more es us image old new k d inside so_far step = record {
  as_long = step.as_long ∙ so_far.as_long;
  each = λ i short. ⊎_elim (λ (here : ((get_or es k d).place / 8 ≤ i) × (i < (get_or es k d).place / 8 + 1)). inr (step.inside i (subst (λ (n : ℕ). i < n) (sym so_far.as_long) short) here.0 here.1))
      (λ away. ⊎_elim
      (λ (seen : (filter (λ (e : Redo). eqb e.place (8 * i)) (take k es) ≡ []) × (find (λ u. covers u (8 * i)) us ≡ None) × (get_or old i 0 ≡ get_or image i 0)).
      inl (
        ap (filter (λ (e : Redo). eqb e.place (8 * i))) (take_more es k d inside) ∙ filter-append (λ (e : Redo). eqb e.place (8 * i)) (take k es) (get_or es k d ∷ [])
            ∙ (λ j. seen.0 j ++ cond (unplaced (get_or es k d) i away j) (get_or es k d ∷ []) []),
        seen.1,
        step.outside i away ∙ seen.2,
      ))
      (λ done. inr (step.outside i away ∙ done)) (so_far.each i short))
      (in_or_away i ((get_or es k d).place / 8) ((get_or es k d).place / 8 + 1));
}

-- all of them
pub all_logged : (es : List Redo) (us : List Undo) (image words : List ℕ) → AreAsLogged es us es us image words → (i : ℕ) → i < length image → get_or words i 0 ≡ logged es us image i
all_logged es us image words done i short =
    ⊎_elim
    (λ (seen : (filter (λ (e : Redo). eqb e.place (8 * i)) es ≡ []) × (find (λ u. covers u (8 * i)) us ≡ None) × (get_or words i 0 ≡ get_or image i 0)).
    seen.2 ∙ sym (λ j. recovered_by (seen.0 j) (seen.1 j) (8 * i) (get_or image i 0)))
    (λ is. is) (done.each i short)

-- at the start the words are the image's
pub none_logged : (es : List Redo) (us : List Undo) (image words : List ℕ) → words ≡ image → AreAsLogged [] [] es us image words
none_logged es us image words same = record { as_long = ap length same; each = λ i short. inl (refl, refl, ap (λ (ws : List ℕ). get_or ws i 0) same) }

-- what was found passes
pub found_passes : (p : Undo → Bool) (us : List Undo) (u : Undo) → find p us ≡ Some u → p u ≡ true
found_passes p [] u is = absurd cc
found_passes p (x ∷ us) u is = go (p x) refl (found_passes p us u) where
  go : (b : Bool) → p x ≡ b → (find p us ≡ Some u → p u ≡ true) → p u ≡ true
  go true passes rest = let same : Some x ≡ Some u = sym (ap (λ (b : Bool). cond b (Some x) (find p us)) passes) ∙ is in let one : x ≡ u = cc in ap p (sym one) ∙ passes
  go false fails rest = rest (sym (ap (λ (b : Bool). cond b (Some x) (find p us)) fails) ∙ is)

pub none_from_not : (o : Option ℕ) → ((x : ℕ) → o ≡ Some x → ⊥) → o ≡ None
none_from_not None not = refl
none_from_not (Some x) not = absurd (not x refl)
