-- From each view all that is undrained may be made persistent, and nothing is undrained then; and what plans lead to.
use Rattle.std.proofs.Common.{◌≡◌, ℕ, zero, suc, ◌+◌, ◌/◌, ◌<◌, ◌≤◌, Bool, true, false, not, cond, eqb, ◌&&◌, inl, inr, ⊎_elim, List, [], ◌∷◌, map, length, slice_index, refl, sym, ap, ◌∙◌, subst, Some, arith, rules, eq-eqb}
use Rattle.std.specs.List.{filter, range_with_len}
use Rattle.std.proofs.lemmas.Bool.{cond-true, cond-false, or_parts, lt-ltb, le-ltb, cases_lt, eqb-true, eqb-false}
use Rattle.pm_layout.specs.Chunks.{words_of}
use Rattle.pm_view.specs.Changes.{Undrained, drained, flushed}
use Rattle.pm_view.specs.Claims.{Claim, Drained}
use Rattle.pm_view.specs.Counts.{HasRoom, is_unflushed, lines_up_to, unflushed_lines}
use Rattle.pm_view.specs.Founds.{knows}
use Rattle.pm_view.specs.Log.{Log}
use Rattle.pm_view.specs.Steps.{Step}
use Rattle.pm_view.specs.Steps.Step.{Load, Store, Flush, Drain}
use Rattle.pm_view.specs.View.{View}
use Rattle.pm_view.specs.Views.{after, after_all, claims_drained, drained_to, log_left}
use Rattle.pm_world.specs.Lawful.{Allowed, MayStore}
use Rattle.pm_plan.specs.Plans.{Plan, nothing, one, in_turn, repeated, looks, known_word, flushes, drains, persists_all, makes_room, stores, IsForeseen, Ready, IsPersisted, HasMadeRoom, claims_persisted, log_persisted}
use Rattle.pm_plan.proofs.Plans.{after_all-append, ready_both}
use Rattle.pm_plan.proofs.Flushing.{rest_unflushed}
use Rattle.pm_plan.proofs.Persisting.{may_flush}
use Rattle.pm_plan.proofs.Dropping.{emptied_drops}

-- what passes a test stands first of those that do
head_passes : (p : ℕ → Bool) (xs : List ℕ) (x : ℕ) (rest : List ℕ) → filter p xs ≡ x ∷ rest → p x ≡ true
head_passes p [] x rest e = absurd (search rules)
head_passes p (y ∷ xs) x rest e = at (p y) refl (head_passes p xs x rest) where
  at : (b : Bool) → p y ≡ b → (filter p xs ≡ x ∷ rest → p x ≡ true) → p x ≡ true
  at true is behind = ap p (sym (ap (λ l. slice_index l 0) (sym (cond-true (p y) (y ∷ filter p xs) (filter p xs) is) ∙ e))) ∙ is
  at false is behind = behind (sym (cond-false (p y) (y ∷ filter p xs) (filter p xs) is) ∙ e)

-- where none passes, each number of the range fails
all_fail : (p : ℕ → Bool) (a n k : ℕ) → filter p (range_with_len a n) ≡ [] → a ≤ k → k < a + n → p k ≡ false
all_fail p a zero k e from to = absurd (omega (arith, from, to))
all_fail p a (suc n) k e from to = at (p a) refl (all_fail p (a + 1) n k) where
  at : (b : Bool) → p a ≡ b → (filter p (range_with_len (a + 1) n) ≡ [] → a + 1 ≤ k → k < a + 1 + n → p k ≡ false) → p k ≡ false
  at true is behind = absurd (let n = ap length (sym (cond-true (p a) (a ∷ filter p (range_with_len (a + 1) n)) (filter p (range_with_len (a + 1) n)) is) ∙ e) in omega (arith, n))
  at false is behind =
      let rest : filter p (range_with_len (a + 1) n) ≡ [] = sym (cond-false (p a) (a ∷ filter p (range_with_len (a + 1) n)) (filter p (range_with_len (a + 1) n)) is) ∙ e in
      ⊎_elim (λ (above : a < k). behind rest (omega (arith, above)) (omega (arith, to))) (λ (here : k ≤ a). ap p (let same : k ≡ a = omega (arith, here, from) in same) ∙ is) (cases_lt a k)

-- the changes are all flushed
all_flushed : (changes : List Undrained) → ((line : ℕ) → line < lines_up_to changes → is_unflushed changes line ≡ false) → drained changes ≡ []
unfolding lines_up_to
all_flushed [] none = refl
all_flushed (c ∷ changes) none =
    let here = (or_parts (eqb (c.word / 8) (c.word / 8) && not c.flushed) (is_unflushed changes (c.word / 8)) (none (c.word / 8) (omega arith))).0 in
    let is : not c.flushed ≡ false = sym (ap (λ b. b && not c.flushed) (eq-eqb (c.word / 8) (c.word / 8) refl)) ∙ here in
    cond-false (not c.flushed) (c ∷ drained changes) (drained changes) is
    ∙ all_flushed changes (λ line low. (or_parts (eqb (c.word / 8) line && not c.flushed) (is_unflushed changes line) (none line (omega (arith, low)))).1)

none_left : (changes : List Undrained) → unflushed_lines changes ≡ [] → drained changes ≡ []
unfolding unflushed_lines
none_left changes none = all_flushed changes (λ line low. all_fail (is_unflushed changes) 0 (lines_up_to changes) line none (omega arith) (omega (arith, low)))

first_due : (changes : List Undrained) (line : ℕ) (rest : List ℕ) → unflushed_lines changes ≡ line ∷ rest → is_unflushed changes line ≡ true
unfolding unflushed_lines
first_due changes line rest e = head_passes (is_unflushed changes) (range_with_len 0 (lines_up_to changes)) line rest e

length_zero : (changes : List Undrained) → length changes ≡ 0 → changes ≡ []
length_zero [] none = refl
length_zero (c ∷ changes) none = absurd (omega (arith, none))

-- the lines are flushed: only flushed changes are left, and as many
pub record AreFlushed (v w : View) : Type 0 where
  pub same : w ≡ record v { changes = w.changes; calls = w.calls }
  pub many : length w.changes ≡ length v.changes
  pub none : drained w.changes ≡ []

pub same_many : (line : ℕ) (changes : List Undrained) → length (flushed line changes) ≡ length changes
same_many line [] = refl
same_many line (c ∷ changes) = ap suc (same_many line changes)

flush_lines : (v : View) (lines : List ℕ) → unflushed_lines v.changes ≡ lines → Ready v (map Flush lines) × AreFlushed v (after_all v (map Flush lines))
unfolding Ready after_all
flush_lines v [] e = (tt, record { same = refl; many = refl; none = none_left v.changes e })
flush_lines v (l ∷ lines) e =
    let rest = flush_lines (after v (Flush l)) lines (rest_unflushed v.changes l lines e) in
    ((may_flush v.changes l (first_due v.changes l lines e), tt, rest.0), record { same = rest.1.same; many = rest.1.many ∙ same_many l v.changes; none = rest.1.none })

flush_all : (v : View) → Ready v (flushes v) × AreFlushed v (after_all v (flushes v))
unfolding flushes
flush_all v = flush_lines v (unflushed_lines v.changes) refl

log_kept : (changes : List Undrained) (log : Log) → length changes ≡ 0 → log_persisted changes log ≡ log
log_kept [] log none = refl
log_kept (c ∷ changes) log none = absurd (omega (arith, none))

log_moved : (changes : List Undrained) (log : Log) → 0 < length changes → log_persisted changes log ≡ log_left [] log
log_moved [] log some = absurd (omega (arith, some))
log_moved (c ∷ changes) log some = refl

claims_kept : (changes : List Undrained) (log : Log) (claims : List Claim) → length changes ≡ 0 → claims_persisted changes log claims ≡ claims
claims_kept [] log claims none = refl
claims_kept (c ∷ changes) log claims none = absurd (omega (arith, none))

claims_moved : (changes : List Undrained) (log : Log) (claims : List Claim) → 0 < length changes → claims_persisted changes log claims ≡ claims_drained [] log (Drained [] ∷ claims)
claims_moved [] log claims some = absurd (omega (arith, some))
claims_moved (c ∷ changes) log claims some = refl

drain_after : (v w : View) → AreFlushed v w → Ready w (drains w) × IsPersisted v (after_all w (drains w))
unfolding drains Ready after_all
drain_after v w marked = at (eqb (length w.changes) 0) refl where
  many : length w.changes ≡ length v.changes
  many = marked.many

  at : (b : Bool) → eqb (length w.changes) 0 ≡ b → Ready w (cond b [] (Drain ∷ [])) × IsPersisted v (after_all w (cond b [] (Drain ∷ [])))
  at true b =
      let zero_ : length w.changes ≡ 0 = eqb-true (length w.changes) 0 b in (
        tt,
        marked.same ∙ ap (λ changes. record v { changes = changes; calls = w.calls }) (length_zero w.changes zero_)
            ∙ ap (λ log. record v { changes = []; calls = w.calls; log = log }) (sym (log_kept v.changes v.log (sym many ∙ zero_)))
            ∙ ap (λ claims. record v { claims = claims; changes = []; calls = w.calls; log = log_persisted v.changes v.log }) (sym (claims_kept v.changes v.log v.claims (sym many ∙ zero_))),
      )
  at false b =
      let some : 0 < length w.changes = (let no = eqb-false (length w.changes) 0 b in omega (arith, no)) in (
        (emptied_drops w.changes marked.none some, tt, tt),
        ap (λ left. drained_to w left) marked.none
            ∙ ap (λ (u : View). record u { claims = claims_drained [] u.log (Drained [] ∷ u.claims); changes = []; calls = Drain ∷ w.calls; log = log_left [] u.log }) marked.same
            ∙ ap (λ log. record v { claims = claims_drained [] v.log (Drained [] ∷ v.claims); changes = []; calls = Drain ∷ w.calls; log = log }) (sym (log_moved v.changes v.log (omega (arith, some, many))))
            ∙ ap (λ claims. record v { claims = claims; changes = []; calls = Drain ∷ w.calls; log = log_persisted v.changes v.log }) (sym (claims_moved v.changes v.log v.claims (omega (arith, some, many)))),
      )

pub persists_all_lawful : (v : View) → Ready v (persists_all v) × IsPersisted v (after_all v (persists_all v))
unfolding persists_all in_turn
persists_all_lawful v =
    let one = flush_all v in
    let two = drain_after v (after_all v (flushes v)) one.1 in
    (ready_both v (flushes v) (drains (after_all v (flushes v))) one.0 two.0, subst (IsPersisted v) (sym (after_all-append v (flushes v) (drains (after_all v (flushes v))))) two.1)

pub room_lawful : (v : View) → Ready v (makes_room v) × HasMadeRoom v (after_all v (makes_room v))
unfolding makes_room Ready after_all
room_lawful v =
    ⊎_elim
    (λ (room : length v.changes < 512). subst (λ steps. Ready v steps × HasMadeRoom v (after_all v steps)) (sym (cond-true _ [] (persists_all v) (lt-ltb (length v.changes) 512 room))) (tt, (room, inl refl)))
    (λ (full : 512 ≤ length v.changes).
    let s = persists_all_lawful v in
    subst (λ steps. Ready v steps × HasMadeRoom v (after_all v steps)) (sym (cond-false _ [] (persists_all v) (le-ltb (length v.changes) 512 full)))
    (s.0, (subst (λ (changes : List Undrained). HasRoom changes) (sym (ap (λ (u : View). u.changes) s.1)) (omega arith), inr (full, s.1))))
    (cases_lt (length v.changes) 512)

-- ---- from views of which one thing holds a plan may be carried out, and leads to views of which another does
abbrev pub Goes : (View → Type 0) → Plan → (View → Type 0) → Type 0
Goes P plan Q = (v : View) → P v → Ready v (plan v) × Q (after_all v (plan v))

pub goes_nothing : (P : View → Type 0) → Goes P nothing P
unfolding nothing Ready after_all
goes_nothing P v p = (tt, p)

pub goes_one : (P Q : View → Type 0) (s : Step) → ((v : View) → P v → Allowed v s × IsForeseen v s × Q (after v s)) → Goes P (one s) Q
unfolding one Ready after_all
goes_one P Q s step v p = let r = step v p in ((r.0, r.1, tt), r.2)

pub goes_look : (P Q : View → Type 0) (w : ℕ) → ((v : View) → P v → (w < words_of v.fixed.shape) × (knows v w ≡ Some (known_word v w)) × Q (after v (Load w (known_word v w)))) → Goes P (looks w) Q
unfolding looks Ready after_all
goes_look P Q w step v p = let r = step v p in ((r.0, r.1, tt), r.2)

pub goes_then : (P Q R : View → Type 0) (s t : Plan) → Goes P s Q → Goes Q t R → Goes P (in_turn s t) R
unfolding in_turn
goes_then P Q R s t first second v p =
    let a = first v p in let b = second (after_all v (s v)) a.1 in
    (ready_both v (s v) (t (after_all v (s v))) a.0 b.0, subst R (sym (after_all-append v (s v) (t (after_all v (s v))))) b.1)

pub goes_repeated : (P : ℕ → View → Type 0) (plans : ℕ → Plan) (n : ℕ) → ((k : ℕ) → k < n → Goes (P k) (plans k) (P (k + 1))) → Goes (P 0) (repeated plans n) (P n)
unfolding repeated
goes_repeated P plans zero each = goes_nothing (P 0)
goes_repeated P plans (suc n) each =
    goes_then (P 0) (P n) (P (suc n)) (repeated plans n) (plans n) (goes_repeated P plans n (λ k below. each k (omega (arith, below))))
    (λ v p. let r = each n (omega arith) v p in (r.0, subst (λ k. P k (after_all v (plans n v))) (let e : n + 1 ≡ suc n = omega arith in e) r.1))

pub goes_weaker : (P P' Q Q' : View → Type 0) (s : Plan) → ((v : View) → P' v → P v) → ((v : View) → Q v → Q' v) → Goes P s Q → Goes P' s Q'
goes_weaker P P' Q Q' s before after_ goes v p = let r = goes v (before v p) in (r.0, after_ _ r.1)

-- room is made, and the word stored: what holds stays so where room is made, and the store is allowed where there is room
pub goes_stores : (P Q : View → Type 0) (w x : ℕ) → ((v u : View) → P v → IsPersisted v u → P u) → ((v : View) → P v → HasRoom v.changes → MayStore v w x × Q (after v (Store w x))) → Goes P (stores w x) Q
unfolding stores
goes_stores P Q w x kept each =
    goes_then P (λ u. P u × HasRoom u.changes) Q makes_room (one (Store w x))
    (λ v p. let r = room_lawful v in (r.0, (⊎_elim (λ (same : after_all v (makes_room v) ≡ v). subst P (sym same) p) (λ (full : (512 ≤ length v.changes) × IsPersisted v (after_all v (makes_room v))). kept v (after_all v (makes_room v)) p full.1) r.1.1, r.1.0)))
    (goes_one (λ u. P u × HasRoom u.changes) Q (Store w x) (λ v t. let r = each v t.0 t.1 in (r.0, tt, r.1)))
