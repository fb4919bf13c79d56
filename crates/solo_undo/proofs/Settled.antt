-- Once all is made persistent nothing is undrained.
use Rattle.std.proofs.Common.{◌≡◌, ℕ, zero, suc, ◌+◌, ◌/◌, ◌<◌, ◌≤◌, Bool, true, false, not, cond, eqb, ◌&&◌, inl, inr, ⊎_elim, List, [], ◌∷◌, map, length, slice_index, refl, sym, ap, ◌∙◌, subst, IsTrue, is_some, arith, rules, eq-eqb}
use Rattle.std.specs.List.{filter, range_with_len}
use Rattle.std.proofs.lemmas.Bool.{cond-true, cond-false, or_parts, lt-ltb, le-ltb, cases_lt, eqb-true, eqb-false}
use Rattle.std.proofs.lemmas.List.Folds.{Any-from_list_any}
use Rattle.solo_view.proofs.Flushing.{rest_unflushed}
use Rattle.solo_view.proofs.Sequences.{after_all-append}
use Rattle.solo_view.specs.declared.change.Change.{Change}
use Rattle.solo_view.specs.Changes.{drained, flushed, is_in_line}
use Rattle.solo_view.specs.Counts.{HasRoom, FlushesSome, is_unflushed, lines_up_to, unflushed_lines}
use Rattle.solo_view.specs.Log.{log_drained}
use Rattle.solo_view.specs.Steps.Step.{Flush, Drain}
use Rattle.solo_view.specs.View.{View}
use Rattle.solo_view.specs.Views.{after, after_all, log_after_drain}
use Rattle.solo_world.specs.Sequences.{flushes, drains, settles, makes_room, in_turn, Ready}
use Rattle.solo_world.proofs.Sequencing.{ready_both}
use Rattle.solo_undo.proofs.Dropping.{emptied_drops}
use Rattle.solo_undo.specs.Working.{HasMadeRoom, IsSettled, log_settled}

-- what passes a test stands first of those that do
head_passes : (p : ℕ → Bool) (xs : List ℕ) (x : ℕ) (rest : List ℕ) → filter p xs ≡ x ∷ rest → p x ≡ true
head_passes p [] x rest e = absurd (search rules)
head_passes p (y ∷ xs) x rest e = at (p y) refl (head_passes p xs x rest) where
  at : (b : Bool) → p y ≡ b → (filter p xs ≡ x ∷ rest → p x ≡ true) → p x ≡ true
  at true is behind = ap p (sym (ap (λ l. slice_index l 0) (sym (cond-true (p y) (y ∷ filter p xs) (filter p xs) is) ∙ e))) ∙ is
  at false is behind = behind (sym (cond-false (p y) (y ∷ filter p xs) (filter p xs) is) ∙ e)

-- where none passes, each number of the range fails
all_fail : (p : ℕ → Bool) (a n k : ℕ) → filter p (range_with_len a n) ≡ [] → a ≤ k → k < a + n → p k ≡ false
all_fail p a zero k e from to = absurd (omega (arith, from, to))
all_fail p a (suc n) k e from to = at (p a) refl (all_fail p (a + 1) n k) where
  at : (b : Bool) → p a ≡ b → (filter p (range_with_len (a + 1) n) ≡ [] → a + 1 ≤ k → k < a + 1 + n → p k ≡ false) → p k ≡ false
  at true is behind = absurd (let n = ap length (sym (cond-true (p a) (a ∷ filter p (range_with_len (a + 1) n)) (filter p (range_with_len (a + 1) n)) is) ∙ e) in omega (arith, n))
  at false is behind =
      let rest : filter p (range_with_len (a + 1) n) ≡ [] = sym (cond-false (p a) (a ∷ filter p (range_with_len (a + 1) n)) (filter p (range_with_len (a + 1) n)) is) ∙ e in
      ⊎_elim (λ (above : a < k). behind rest (omega (arith, above)) (omega (arith, to))) (λ (here : k ≤ a). ap p (let same : k ≡ a = omega (arith, here, from) in same) ∙ is) (cases_lt a k)

-- the changes are all flushed
all_flushed : (changes : List Change) → ((line : ℕ) → line < lines_up_to changes → is_unflushed changes line ≡ false) → drained changes ≡ []
unfolding lines_up_to
all_flushed [] none = refl
all_flushed (c ∷ changes) none =
    let here = (or_parts (eqb (c.word / 8) (c.word / 8) && not c.flushed) (is_unflushed changes (c.word / 8)) (none (c.word / 8) (omega arith))).0 in
    let is : not c.flushed ≡ false = sym (ap (λ b. b && not c.flushed) (eq-eqb (c.word / 8) (c.word / 8) refl)) ∙ here in
    cond-false (not c.flushed) (c ∷ drained changes) (drained changes) is
    ∙ all_flushed changes (λ line low. (or_parts (eqb (c.word / 8) line && not c.flushed) (is_unflushed changes line) (none line (omega (arith, low)))).1)

none_left : (changes : List Change) → unflushed_lines changes ≡ [] → drained changes ≡ []
unfolding unflushed_lines
none_left changes none = all_flushed changes (λ line low. all_fail (is_unflushed changes) 0 (lines_up_to changes) line none (omega arith) (omega (arith, low)))

first_due : (changes : List Change) (line : ℕ) (rest : List ℕ) → unflushed_lines changes ≡ line ∷ rest → is_unflushed changes line ≡ true
unfolding unflushed_lines
first_due changes line rest e = head_passes (is_unflushed changes) (range_with_len 0 (lines_up_to changes)) line rest e

pub may_flush : (changes : List Change) (line : ℕ) → is_unflushed changes line ≡ true → FlushesSome line changes
may_flush changes line is =
    let a = Any-from_list_any (λ (c : Change). is_in_line line c && not c.flushed) changes is in
    (a.0, a.1, a.2, a.3, parts (is_in_line line a.1) a.1.flushed a.4) where
      parts : (here marked : Bool) → (here && not marked) ≡ true → IsTrue here × (marked ≡ false)
      parts true true e = absurd cc
      parts true false e = (search rules, refl)
      parts false marked e = absurd cc

length_zero : (changes : List Change) → length changes ≡ 0 → changes ≡ []
length_zero [] none = refl
length_zero (c ∷ changes) none = absurd (omega (arith, none))

-- the lines are flushed: only flushed changes are left, and as many
pub record AreFlushed (v w : View) : Type 0 where
  pub same : w ≡ record v { changes = w.changes; calls = w.calls }
  pub many : length w.changes ≡ length v.changes
  pub none : drained w.changes ≡ []

pub same_many : (line : ℕ) (changes : List Change) → length (flushed line changes) ≡ length changes
same_many line [] = refl
same_many line (c ∷ changes) = ap suc (same_many line changes)

flush_lines : (v : View) (lines : List ℕ) → unflushed_lines v.changes ≡ lines → Ready v (map Flush lines) × AreFlushed v (after_all v (map Flush lines))
unfolding Ready after_all
flush_lines v [] e = (tt, record { same = refl; many = refl; none = none_left v.changes e })
flush_lines v (l ∷ lines) e =
    let rest = flush_lines (after v (Flush l)) lines (rest_unflushed v.changes l lines e) in
    ((may_flush v.changes l (first_due v.changes l lines e), tt, rest.0), record { same = rest.1.same; many = rest.1.many ∙ same_many l v.changes; none = rest.1.none })

flush_all : (v : View) → Ready v (flushes v) × AreFlushed v (after_all v (flushes v))
unfolding flushes
flush_all v = flush_lines v (unflushed_lines v.changes) refl

log_kept : (changes : List Change) (v : View) → length changes ≡ 0 → log_settled changes v ≡ v.log
log_kept [] v none = refl
log_kept (c ∷ changes) v none = absurd (omega (arith, none))

log_moved : (changes : List Change) (v : View) → 0 < length changes → log_settled changes v ≡ log_drained v.log.phase (is_some v.number) v.log
log_moved [] v some = absurd (omega (arith, some))
log_moved (c ∷ changes) v some = refl

settle_behind : (v w : View) → AreFlushed v w → Ready w (drains w) × IsSettled v (after_all w (drains w))
unfolding drains Ready after_all
settle_behind v w marked = at (eqb (length w.changes) 0) refl where
  many : length w.changes ≡ length v.changes
  many = marked.many

  at : (b : Bool) → eqb (length w.changes) 0 ≡ b → Ready w (cond b [] (Drain ∷ []))
      × (after_all w (cond b [] (Drain ∷ [])) ≡ record v { changes = []; calls = (after_all w (cond b [] (Drain ∷ []))).calls; log = log_settled v.changes v })
  at true b =
      let zero_ : length w.changes ≡ 0 = eqb-true (length w.changes) 0 b in
      (tt, marked.same ∙ ap (λ changes. record v { changes = changes; calls = w.calls }) (length_zero w.changes zero_) ∙ ap (λ log. record v { changes = []; calls = w.calls; log = log }) (sym (log_kept v.changes v (sym many ∙ zero_))))
  at false b =
      let some : 0 < length w.changes = (let no = eqb-false (length w.changes) 0 b in omega (arith, no)) in (
        (emptied_drops w.changes marked.none some, tt, tt),
        ap (λ left. record w { changes = left; calls = w.calls + 1; log = log_after_drain left w }) marked.none
            ∙ ap (λ (u : View). record u { changes = []; calls = w.calls + 1; log = log_after_drain [] u }) marked.same
            ∙ ap (λ log. record v { changes = []; calls = w.calls + 1; log = log }) (sym (log_moved v.changes v (omega (arith, some, many)))),
      )

pub settle_lawful : (v : View) → Ready v (settles v) × IsSettled v (after_all v (settles v))
unfolding settles in_turn
settle_lawful v =
    let one = flush_all v in
    let two = settle_behind v (after_all v (flushes v)) one.1 in
    (ready_both v (flushes v) (drains (after_all v (flushes v))) one.0 two.0, subst (IsSettled v) (sym (after_all-append v (flushes v) (drains (after_all v (flushes v))))) two.1)

pub room_lawful : (v : View) → Ready v (makes_room v) × HasMadeRoom v (after_all v (makes_room v))
unfolding makes_room Ready after_all
room_lawful v =
    ⊎_elim
    (λ (room : length v.changes < 512). subst (λ steps. Ready v steps × HasMadeRoom v (after_all v steps)) (sym (cond-true _ [] (settles v) (lt-ltb (length v.changes) 512 room))) (tt, (room, inl refl)))
    (λ (full : 512 ≤ length v.changes).
    let s = settle_lawful v in
    subst (λ steps. Ready v steps × HasMadeRoom v (after_all v steps)) (sym (cond-false _ [] (settles v) (le-ltb (length v.changes) 512 full)))
    (s.0, (subst (λ (changes : List Change). HasRoom changes) (sym (ap (λ (u : View). u.changes) s.1)) (omega arith), inr (full, s.1))))
    (cases_lt (length v.changes) 512)
