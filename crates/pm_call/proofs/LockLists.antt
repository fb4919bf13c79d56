-- THE LIST OF A LANE'S LOCKS once it took those that are wanted and raised those that are to be
-- written is that of the model's transaction.
use Rattle.std.specs.Prelude.{length}
use Rattle.std.proofs.Common.{◌≡◌, ◌≢◌, ⊎_elim, ℕ, zero, suc, ◌+◌, ◌%◌, ◌<◌, ◌≤◌, nat_le, nat_lt, Bool, true, false, cond, not, ◌==◌, ◌&&◌, ◌||◌, List, [], ◌∷◌, ◌++◌, refl, sym, ap, ◌∙◌, arith, ne_eqb, eq-eqb, Option, None, Some}
use Rattle.std.specs.List.{AllByRecursion, list_any}
use Rattle.std.proofs.lemmas.Bool.{and_from, and_left, and_parts, and_right, both_ways, cases_eq, cond-true, eqb-true, le-leb, leb-true, ltb-true, or_cases, or_left, or_right}
use Rattle.pm_layout.specs.declared.shape.Shape.{Shape}
use Rattle.pm_objects.specs.declared.calls.Want.{Want}
use Rattle.pm_objects.specs.declared.ids.Oid.{Oid}
use Rattle.pm_model.specs.Transaction.{Lock, all_locked, is_locked, locked}
use Rattle.pm_world.specs.declared.lane.HeldLock.{HeldLock}
use Rattle.pm_lock.specs.Holding.{Rises}
use Rattle.pm_lock.specs.Locking.{lock_of}
use Rattle.pm_lock.specs.Objects.{is_placed, line_before}
use Rattle.pm_lock.specs.Objects as objects
use Rattle.pm_lock.specs.Plans.{planned}
use Rattle.pm_lock.specs.Raising.{raised}
use Rattle.pm_lock.specs.Wants.{has_unplaced, is_at_line, is_listed, planned_all, planned_for, planned_unless, wanted, wants_to_write}
use Rattle.pm_lock.proofs.CanBegin.{has_header}
use Rattle.pm_lock.proofs.Planned.{planned_rises}
use Rattle.pm_call.specs.Held.{has_line, is_in_locks, line_of}

-- ---- truth values
pub none_then : (a : Bool) → (a || false) ≡ a
none_then true = refl
none_then false = refl

all_then : (a : Bool) → (a || true) ≡ true
all_then true = refl
all_then false = refl

last : (c h a : Bool) → (c || (h || a)) ≡ ((c || h) || a)
last true h a = refl
last false h a = refl

turned : (a b : Bool) → (a || b) ≡ (b || a)
turned true true = refl
turned true false = refl
turned false true = refl
turned false false = refl

-- one lock that is asked for again
merged : (a p q n h : Bool) → ((a && ((p || q) || n)) || h) ≡ (((a && (p || n)) || h) || (a && (q || n)))
merged false p q n h = sym (none_then h)
merged true true q n h = refl
merged true false true true h = refl
merged true false true false true = refl
merged true false true false false = refl
merged true false false true h = refl
merged true false false false true = refl
merged true false false false false = refl

spread : (a f w x y : Bool) → ((a || (f && w)) || (x || (y && w))) ≡ ((a || x) || ((f || y) && w))
spread true f w x y = refl
spread false true true true y = refl
spread false true true false y = refl
spread false true false true y = refl
spread false true false false true = refl
spread false true false false false = refl
spread false false w x y = refl

-- ---- the model's locks, by their offsets
locked_is : (o : ℕ) (w : Bool) (locks : List Lock) (off : ℕ) (write : Bool) → is_locked (locked o w locks) off write ≡ (is_locked locks off write || (o == off && (w || not write)))
unfolding locked
locked_is o w [] off write = none_then (o == off && (w || not write))
locked_is o w (l ∷ locks) off write = by (l.off == o) refl (locked_is o w locks off write) where
  by : (b : Bool) → (l.off == o) ≡ b → is_locked (locked o w locks) off write ≡ (is_locked locks off write || (o == off && (w || not write)))
      → is_locked (cond b (record { off = o; write = l.write || w } ∷ locks) (l ∷ locked o w locks)) off write ≡ (((l.off == off && (l.write || not write)) || is_locked locks off write) || (o == off && (w || not write)))
  by true e rest = merged (o == off) l.write w (not write) (is_locked locks off write) ∙ ap (λ n. ((n == off && (l.write || not write)) || is_locked locks off write) || (o == off && (w || not write))) (sym (eqb-true l.off o e))
  by false e rest = ap (λ b. (l.off == off && (l.write || not write)) || b) rest ∙ last (l.off == off && (l.write || not write)) (is_locked locks off write) (o == off && (w || not write))

abbrev pub wants_off : List Want → ℕ → Bool → Bool
wants_off wants off write = list_any (λ (want : Want). want.id.off == off && (want.write || not write)) wants

pub all_locked_is : (wants : List Want) (locks : List Lock) (off : ℕ) (write : Bool) → is_locked (all_locked wants locks) off write ≡ (is_locked locks off write || wants_off wants off write)
unfolding all_locked
all_locked_is [] locks off write = sym (none_then (is_locked locks off write))
all_locked_is (want ∷ wants) locks off write = all_locked_is wants (locked want.id.off want.write locks) off write
    ∙ (ap (λ b. b || wants_off wants off write) (locked_is want.id.off want.write locks off write) ∙ sym (last (is_locked locks off write) (want.id.off == off && (want.write || not write)) (wants_off wants off write)))

-- ---- the lane's, by their lines
abbrev pub any_at : List HeldLock → ℕ → Bool → Bool
any_at locks n write = list_any (λ (l : HeldLock). l.line == n && (l.write || not write)) locks

planned_is : (line : ℕ) (w : Bool) (plan : List HeldLock) (n : ℕ) (write : Bool) → any_at (planned line w plan) n write ≡ (any_at plan n write || (line == n && (w || not write)))
unfolding planned
planned_is line w [] n write = none_then (line == n && (w || not write))
planned_is line w (l ∷ plan) n write = by (nat_lt line l.line) (l.line == line) refl (planned_is line w plan n write) where
  by : (less b : Bool) → (l.line == line) ≡ b → any_at (planned line w plan) n write ≡ (any_at plan n write || (line == n && (w || not write)))
      → any_at (cond less (lock_of line w ∷ l ∷ plan) (cond b (lock_of line (l.write || w) ∷ plan) (l ∷ planned line w plan))) n write ≡ (((l.line == n && (l.write || not write)) || any_at plan n write) || (line == n && (w || not write)))
  by true b e rest = turned (line == n && (w || not write)) ((l.line == n && (l.write || not write)) || any_at plan n write)
  by false true e rest = merged (line == n) l.write w (not write) (any_at plan n write) ∙ ap (λ m. ((m == n && (l.write || not write)) || any_at plan n write) || (line == n && (w || not write))) (sym (eqb-true l.line line e))
  by false false e rest = ap (λ b. (l.line == n && (l.write || not write)) || b) rest ∙ last (l.line == n && (l.write || not write)) (any_at plan n write) (line == n && (w || not write))

both_at : (one two : List HeldLock) (n : ℕ) (write : Bool) → any_at (one ++ two) n write ≡ (any_at one n write || any_at two n write)
both_at [] two n write = refl
both_at (l ∷ one) two n write = ap (λ b. (l.line == n && (l.write || not write)) || b) (both_at one two n write) ∙ last (l.line == n && (l.write || not write)) (any_at one n write) (any_at two n write)

raised_is : (writes : ℕ → Bool) (locks : List HeldLock) (n : ℕ) (write : Bool) → any_at (raised writes locks) n write ≡ (any_at locks n write || (any_at locks n false && writes n))
raised_is writes [] n write = refl
raised_is writes (l ∷ locks) n write =
    (λ i. one (l.line == n) refl i || raised_is writes locks n write i)
    ∙ spread (l.line == n && (l.write || not write)) (l.line == n && (l.write || true)) (writes n) (any_at locks n write) (any_at locks n false)
  where
    bits : (p q m : Bool) → ((p || q) || m) ≡ ((p || m) || ((p || true) && q))
    bits true q m = refl
    bits false true true = refl
    bits false true false = refl
    bits false false true = refl
    bits false false false = refl

    one : (b : Bool) → (l.line == n) ≡ b → (l.line == n && ((l.write || writes l.line) || not write)) ≡ ((l.line == n && (l.write || not write)) || ((l.line == n && (l.write || true)) && writes n))
    one true e = ap (λ b. b && ((l.write || writes l.line) || not write)) e ∙ (ap (λ m. (l.write || writes m) || not write) (eqb-true l.line n e) ∙ (bits l.write (writes n) (not write)
        ∙ ap (λ b. (b && (l.write || not write)) || ((b && (l.write || true)) && writes n)) (sym e)))
    one false e = ap (λ b. b && ((l.write || writes l.line) || not write)) e ∙ ap (λ b. (b && (l.write || not write)) || ((b && (l.write || true)) && writes n)) (sym e)

module _ (sh : Shape) (pool : ℕ) (listed : ℕ → Bool) where
  -- what is wanted at the line, and not listed
  abbrev goes_at : ℕ → Bool → Want → Bool
  goes_at n write want = (is_at_line (objects.line_of sh pool want.id) n && not (listed n)) && (want.write || not write)

  for_one : (o : Option ℕ) (w : Bool) (plan : List HeldLock) (n : ℕ) (write : Bool) → any_at (planned_for listed o w plan) n write ≡ (any_at plan n write || ((is_at_line o n && not (listed n)) && (w || not write)))
  for_one None w plan n write = sym (none_then (any_at plan n write))
  for_one (Some line) w plan n write = by (listed line) refl (line == n) refl
    where
      by : (b : Bool) → listed line ≡ b → (c : Bool) → (line == n) ≡ c → any_at (planned_unless b line w plan) n write ≡ (any_at plan n write || ((line == n && not (listed n)) && (w || not write)))
      by true e true f = sym (ap (λ x. any_at plan n write || ((line == n && not x) && (w || not write))) (ap listed (sym (eqb-true line n f)) ∙ e) ∙ (ap (λ x. any_at plan n write || (x && (w || not write))) (and_right (line == n) false refl) ∙ none_then (any_at plan n write)))
      by true e false f = sym (ap (λ x. any_at plan n write || ((x && not (listed n)) && (w || not write))) f ∙ none_then (any_at plan n write))
      by false e true f = planned_is line w plan n write ∙ ap (λ x. any_at plan n write || (x && (w || not write))) (f ∙ sym (and_from (line == n) (not (listed n)) f (ap not (ap listed (sym (eqb-true line n f)) ∙ e))))
      by false e false f = planned_is line w plan n write ∙ ap (λ x. any_at plan n write || (x && (w || not write))) (f ∙ sym (and_left (line == n) (not (listed n)) f))

  pub all_planned_is : (wants : List Want) (plan : List HeldLock) (n : ℕ) (write : Bool) → any_at (planned_all sh pool listed wants plan) n write ≡ (any_at plan n write || list_any (goes_at n write) wants)
  unfolding planned_all
  all_planned_is [] plan n write = sym (none_then (any_at plan n write))
  all_planned_is (want ∷ wants) plan n write = all_planned_is wants (planned_for listed (objects.line_of sh pool want.id) want.write plan) n write
      ∙ (ap (λ b. b || list_any (goes_at n write) wants) (for_one (objects.line_of sh pool want.id) want.write plan n write) ∙ sym (last (any_at plan n write) (goes_at n write want) (list_any (goes_at n write) wants)))

-- ---- BOTH ARE THE SAME, by an object's offset and by its line
f_all : (a x : Bool) → (a && (x || true)) ≡ a
f_all true true = refl
f_all true false = refl
f_all false x = refl

pub listed_is : (locks : List HeldLock) (n : ℕ) → any_at locks n false ≡ is_listed locks [] n
listed_is locks n = by locks ∙ sym (none_then (list_any (λ (l : HeldLock). l.line == n) locks)) where
  by : (locks : List HeldLock) → any_at locks n false ≡ list_any (λ (l : HeldLock). l.line == n) locks
  by [] = refl
  by (l ∷ locks) = (λ i. f_all (l.line == n) l.write i || by locks i)

-- a lock for writing is one
pub any_of : (locks : List HeldLock) (n : ℕ) (write : Bool) → any_at locks n false ≡ false → any_at locks n write ≡ false
any_of [] n write e = refl
any_of (l ∷ locks) n write e = by (l.line == n) l.write (any_at locks n false) (any_of locks n write) e where
  by : (a p f : Bool) → (f ≡ false → any_at locks n write ≡ false) → ((a && (p || true)) || f) ≡ false → ((a && (p || not write)) || any_at locks n write) ≡ false
  by true true f rest e = absurd (both_ways true e refl)
  by true false f rest e = absurd (both_ways true e refl)
  by false p f rest e = rest e

pub same_any : (P Q : Want → Bool) (wants : List Want) → ((want : Want) → P want ≡ Q want) → list_any P wants ≡ list_any Q wants
same_any P Q [] e = refl
same_any P Q (want ∷ wants) e = λ i. e want i || same_any P Q wants e i

pub none_any : (P : Want → Bool) (wants : List Want) → ((want : Want) → P want ≡ false) → list_any P wants ≡ false
none_any P [] e = refl
none_any P (want ∷ wants) e = ap (λ b. b || list_any P wants) (e want) ∙ none_any P wants e

pub more_any : (P Q : Want → Bool) (wants : List Want) → ((want : Want) → P want ≡ true → Q want ≡ true) → list_any P wants ≡ true → list_any Q wants ≡ true
more_any P Q [] so e = absurd (both_ways false refl e)
more_any P Q (want ∷ wants) so e = ⊎_elim (λ (h : P want ≡ true). or_left (Q want) (list_any Q wants) (so want h)) (λ (h : list_any P wants ≡ true). or_right (Q want) (list_any Q wants) (more_any P Q wants so h)) (or_cases (P want) (list_any P wants) e)

-- by whether the line is listed
joined_so : (a f lst pw pf w g : Bool) → f ≡ lst → (f ≡ false → a ≡ false) → (lst ≡ true → (pw ≡ false) × (pf ≡ false)) → (lst ≡ false → pw ≡ g) → (w ≡ true → g ≡ true) → (lst ≡ true → (a || g) ≡ (a || w))
    → (a || g) ≡ ((a || pw) || ((f || pf) && w))
joined_so a f true pw pf w g is none both alone more goes = goes refl ∙ sym ((λ i. (a || (both refl).0 i) || ((is i || pf) && w)) ∙ ap (λ b. b || w) (none_then a))
joined_so a f false pw pf true g is none both alone more goes = ap (λ b. a || b) (more refl) ∙ (all_then a ∙ sym ((λ i. (a || (alone refl ∙ more refl) i) || ((f || pf) && true)) ∙ ap (λ b. b || ((f || pf) && true)) (all_then a)))
joined_so a f false pw pf false g is none both alone more goes = sym ((λ i. (a || alone refl i) || and_right (f || pf) false refl i) ∙ none_then (a || g))

-- line 0 is no chunk's
pub chunk_high : (sh : Shape) (line : ℕ) → objects.is_chunk_line sh line ≡ true → 1 ≤ line
chunk_high sh zero e = absurd (both_ways (objects.is_chunk_line sh 0) (and_left (Rattle.pm_layout.specs.Chunks.is_in_zone sh 0) (nat_le 1 (Rattle.pm_layout.specs.Chunks.page_in_zone sh 0)) (and_left (nat_le (Rattle.pm_layout.specs.Chunks.page_of_zone sh 0) 0) (nat_lt 0 (Rattle.pm_layout.specs.Chunks.page_of_zone sh sh.zones)) (Rattle.pm_plan.proofs.AreaParts.not_le (Rattle.pm_layout.specs.Chunks.page_of_zone sh 0) 0 (omega arith)))) e)
chunk_high sh (suc line) e = omega arith

module _ (sh : Shape) (pool : ℕ) (locks : List HeldLock) (wants : List Want) where
  abbrev plan : List HeldLock
  plan = wanted sh pool locks [] wants

  abbrev writes : ℕ → Bool
  writes = wants_to_write sh pool wants

  pub all_locks_at : (n : ℕ) (write : Bool) → any_at (raised writes (locks ++ plan)) n write ≡ (any_at locks n write || list_any (λ (want : Want). is_at_line (objects.line_of sh pool want.id) n && (want.write || not write)) wants)
  all_locks_at n write = raised_is writes (locks ++ plan) n write ∙ ((λ i. at write i || (at false i && writes n)) ∙ sym (joined_so a f (is_listed locks [] n) (wanted_at write) (wanted_at false) (writes n) g (listed_is locks n) (any_of locks n write) both alone more goes))
    where
      a : Bool
      a = any_at locks n write

      f : Bool
      f = any_at locks n false

      wanted_at : Bool → Bool
      wanted_at w = list_any (goes_at sh pool (is_listed locks []) n w) wants

      g : Bool
      g = list_any (λ (want : Want). is_at_line (objects.line_of sh pool want.id) n && (want.write || not write)) wants

      at : (w : Bool) → any_at (locks ++ plan) n w ≡ (any_at locks n w || wanted_at w)
      at w = both_at locks plan n w ∙ ap (λ b. any_at locks n w || b) (all_planned_is sh pool (is_listed locks []) wants [] n w)

      here : Want → Bool
      here want = is_at_line (objects.line_of sh pool want.id) n

      none_at : (w : Bool) → is_listed locks [] n ≡ true → wanted_at w ≡ false
      none_at w e = none_any (goes_at sh pool (is_listed locks []) n w) wants (λ want. and_left (here want && not (is_listed locks [] n)) (want.write || not w) (and_right (here want) (not (is_listed locks [] n)) (ap not e)))

      both : is_listed locks [] n ≡ true → (wanted_at write ≡ false) × (wanted_at false ≡ false)
      both e = (none_at write e, none_at false e)

      kept : (x : Bool) → (x && true) ≡ x
      kept true = refl
      kept false = refl

      alone : is_listed locks [] n ≡ false → wanted_at write ≡ g
      alone e = same_any (goes_at sh pool (is_listed locks []) n write) (λ (want : Want). here want && (want.write || not write)) wants (λ want. ap (λ b. (here want && not b) && (want.write || not write)) e ∙ ap (λ b. b && (want.write || not write)) (kept (here want)))

      more : writes n ≡ true → g ≡ true
      more = more_any (λ (want : Want). want.write && here want) (λ (want : Want). here want && (want.write || not write)) wants (λ want e. let t = and_parts want.write (here want) e in and_from (here want) (want.write || not write) t.1 (or_left want.write (not write) t.0))

      order : (x y : Bool) → (x && y) ≡ (y && x)
      order true true = refl
      order true false = refl
      order false true = refl
      order false false = refl

      goes : is_listed locks [] n ≡ true → (a || g) ≡ (a || writes n)
      goes e = by write refl
        where
          by : (w : Bool) → write ≡ w → (a || g) ≡ (a || writes n)
          by true q = ap (λ b. a || b) (same_any (λ (want : Want). here want && (want.write || not write)) (λ (want : Want). want.write && here want) wants (λ want. ap (λ m. here want && (want.write || not m)) q ∙ (ap (λ b. here want && b) (none_then want.write) ∙ order (here want) want.write)))
          by false q = let yes : a ≡ true = ap (any_at locks n) q ∙ (listed_is locks n ∙ e) in ap (λ b. b || g) yes ∙ sym (ap (λ b. b || writes n) yes)

  -- ---- by offsets: each that is wanted has a place
  placed_parts : (id : Oid) → is_placed sh pool id ≡ true → (has_line id.off ≡ true) × (objects.line_of sh pool id ≡ Some (line_of id.off))
  placed_parts id e =
      let there : objects.line_of sh pool id ≡ Some (line_before id.off) = cond-true (is_placed sh pool id) (Some (line_before id.off)) None e in
      let h = has_header sh pool (line_before id.off) id there in
      let before = h.before in
      let high : 1 ≤ line_before id.off = chunk_high sh (line_before id.off) h.chunk in
      (and_from (id.off % 64 == 0) (nat_le 128 id.off) (eq-eqb (id.off % 64) 0 (omega (arith, before))) (le-leb 128 id.off (omega (arith, before, high))), there)

  pub all_placed : (wants : List Want) → has_unplaced sh pool wants ≡ false → AllByRecursion (λ (want : Want). is_placed sh pool want.id ≡ true) wants
  all_placed [] e = tt
  all_placed (want ∷ wants) e = by (is_placed sh pool want.id) refl e (all_placed wants) where
    by : (b : Bool) → is_placed sh pool want.id ≡ b → (not b || has_unplaced sh pool wants) ≡ false → (has_unplaced sh pool wants ≡ false → AllByRecursion (λ (want : Want). is_placed sh pool want.id ≡ true) wants)
        → AllByRecursion (λ (want : Want). is_placed sh pool want.id ≡ true) (want ∷ wants)
    by true q e rest = (q, rest e)
    by false q e rest = absurd (both_ways true e refl)

  module _ (placed : has_unplaced sh pool wants ≡ false) where
    same_off : (id : Oid) (off : ℕ) → is_placed sh pool id ≡ true → has_line off ≡ true → is_at_line (objects.line_of sh pool id) (line_of off) ≡ (id.off == off)
    same_off id off e h =
        let t = placed_parts id e in
        let a = and_parts (id.off % 64 == 0) (nat_le 128 id.off) t.0 in
        let b = and_parts (off % 64 == 0) (nat_le 128 off) h in
        let ae = eqb-true (id.off % 64) 0 a.0 in let al = leb-true 128 id.off a.1 in
        let be = eqb-true (off % 64) 0 b.0 in let bl = leb-true 128 off b.1 in
        ap (λ o. is_at_line o (line_of off)) t.1 ∙ ⊎_elim
        (λ (q : id.off ≡ off). eq-eqb (line_of id.off) (line_of off) (ap line_of q) ∙ sym (eq-eqb id.off off q))
        (λ (q : id.off ≢ off). ne_eqb (line_of id.off) (line_of off) (λ z. q (omega (arith, z, ae, al, be, bl))) ∙ sym (ne_eqb id.off off q)) (cases_eq id.off off)

    at_off : (wants : List Want) (off : ℕ) (write : Bool) → AllByRecursion (λ (want : Want). is_placed sh pool want.id ≡ true) wants → has_line off ≡ true
        → list_any (λ (want : Want). is_at_line (objects.line_of sh pool want.id) (line_of off) && (want.write || not write)) wants ≡ wants_off wants off write
    at_off [] off write all h = refl
    at_off (want ∷ wants) off write all h = λ i. (same_off want.id off all.0 h i && (want.write || not write)) || at_off wants off write all.1 h i

    off_line : (wants : List Want) (off : ℕ) (write : Bool) → AllByRecursion (λ (want : Want). is_placed sh pool want.id ≡ true) wants → has_line off ≡ false → wants_off wants off write ≡ false
    off_line [] off write all h = refl
    off_line (want ∷ wants) off write all h =
        let ne : (want.id.off == off) ≡ false = ne_eqb want.id.off off (λ q. both_ways (has_line off) h (ap has_line (sym q) ∙ (placed_parts want.id all.0).0)) in
        ap (λ b. (b && (want.write || not write)) || wants_off wants off write) ne ∙ off_line wants off write all.1 h

    -- THE LIST IS THE MODEL'S
    pub locks_are : (T : List Lock) → ((off : ℕ) (write : Bool) → is_locked T off write ≡ is_in_locks locks off write)
        → (off : ℕ) (write : Bool) → is_locked (all_locked wants T) off write ≡ is_in_locks (raised writes (locks ++ plan)) off write
    locks_are T same off write = by (has_line off) refl
      where
        by : (b : Bool) → has_line off ≡ b → is_locked (all_locked wants T) off write ≡ is_in_locks (raised writes (locks ++ plan)) off write
        by true e = all_locked_is wants T off write ∙ ((λ i. (same off write ∙ ap (λ b. b && any_at locks (line_of off) write) e) i || sym (at_off wants off write (all_placed wants placed) e) i)
            ∙ (sym (all_locks_at (line_of off) write) ∙ sym (ap (λ b. b && any_at (raised writes (locks ++ plan)) (line_of off) write) e)))
        by false e = all_locked_is wants T off write ∙ ((λ i. (same off write ∙ ap (λ b. b && any_at locks (line_of off) write) e) i || off_line wants off write (all_placed wants placed) e i)
            ∙ sym (ap (λ b. b && any_at (raised writes (locks ++ plan)) (line_of off) write) e))

-- ---- AND AS LONG
abbrev one_unless : Bool → ℕ
one_unless b = cond b 0 1

locked_count : (o : ℕ) (w : Bool) (locks : List Lock) → length (locked o w locks) ≡ length locks + one_unless (is_locked locks o false)
unfolding locked
locked_count o w [] = refl
locked_count o w (l ∷ locks) = at (l.off == o) refl (locked_count o w locks) where
  at : (b : Bool) → (l.off == o) ≡ b → length (locked o w locks) ≡ length locks + one_unless (is_locked locks o false)
      → length (cond b (record { off = o; write = l.write || w } ∷ locks) (l ∷ locked o w locks)) ≡ suc (length locks) + one_unless ((l.off == o && (l.write || true)) || is_locked locks o false)
  at true e rest = let z : one_unless ((l.off == o && (l.write || true)) || is_locked locks o false) ≡ 0 = ap (λ b. one_unless (b || is_locked locks o false)) (f_all (l.off == o) l.write ∙ e) in omega (arith, z)
  at false e rest = let z : one_unless ((l.off == o && (l.write || true)) || is_locked locks o false) ≡ one_unless (is_locked locks o false) = ap (λ b. one_unless (b || is_locked locks o false)) (f_all (l.off == o) l.write ∙ e) in omega (arith, rest, z)

pub none_above : (line low : ℕ) (plan : List HeldLock) → line ≤ low → AllByRecursion (λ (k : HeldLock). low < k.line) plan → any_at plan line false ≡ false
none_above line low [] le above = refl
none_above line low (l ∷ plan) le above = let first = above.0 in ap (λ b. b || any_at plan line false) (f_all (l.line == line) l.write ∙ ne_eqb l.line line (λ e. omega (arith, e, le, first))) ∙ none_above line low plan le above.1

planned_count : (line : ℕ) (w : Bool) (plan : List HeldLock) → Rises plan → length (planned line w plan) ≡ length plan + one_unless (any_at plan line false)
unfolding planned
planned_count line w [] r = refl
planned_count line w (l ∷ plan) r = at (nat_lt line l.line) refl (l.line == line) refl (planned_count line w plan r.1) where
  at : (less : Bool) → nat_lt line l.line ≡ less → (b : Bool) → (l.line == line) ≡ b → length (planned line w plan) ≡ length plan + one_unless (any_at plan line false)
      → length (cond less (lock_of line w ∷ l ∷ plan) (cond b (lock_of line (l.write || w) ∷ plan) (l ∷ planned line w plan))) ≡ suc (length plan) + one_unless ((l.line == line && (l.write || true)) || any_at plan line false)
  at true e b f rest = let low = ltb-true line l.line e in
      let none : one_unless ((l.line == line && (l.write || true)) || any_at plan line false) ≡ 1 = ap one_unless (ap (λ t. t || any_at plan line false) (f_all (l.line == line) l.write ∙ ne_eqb l.line line (λ q. omega (arith, q, low))) ∙ none_above line l.line plan (omega (arith, low)) r.0) in omega (arith, none)
  at false e true f rest = let none : one_unless ((l.line == line && (l.write || true)) || any_at plan line false) ≡ 0 = ap (λ t. one_unless (t || any_at plan line false)) (f_all (l.line == line) l.write ∙ f) in omega (arith, none)
  at false e false f rest = let none : one_unless ((l.line == line && (l.write || true)) || any_at plan line false) ≡ one_unless (any_at plan line false) = ap (λ t. one_unless (t || any_at plan line false)) (f_all (l.line == line) l.write ∙ f) in omega (arith, none, rest)

module _ (sh : Shape) (pool : ℕ) (locks : List HeldLock) where
  record Goes (T : List Lock) (P : List HeldLock) : Type 0 where
    pub count : length T ≡ length locks + length P
    pub rises : Rises P
    pub same : (off : ℕ) → has_line off ≡ true → (is_listed locks [] (line_of off) || any_at P (line_of off) false) ≡ is_locked T off false

  one_more : (id : Oid) (w : Bool) (T : List Lock) (P : List HeldLock) → has_line id.off ≡ true → Goes T P → (b : Bool) → is_listed locks [] (line_of id.off) ≡ b → Goes (locked id.off w T) (planned_unless b (line_of id.off) w P)
  one_more id w T P has g true l =
      let there : is_locked T id.off false ≡ true = sym (g.same id.off has) ∙ ap (λ t. t || any_at P (line_of id.off) false) l in record {
        count = (let n = locked_count id.off w T in let z : one_unless (is_locked T id.off false) ≡ 0 = ap one_unless there in let c = g.count in omega (arith, n, z, c));
        rises = g.rises;
        same = λ off h. g.same off h ∙ (absorbed (is_locked T off false) (id.off == off && (w || true)) (λ e. ap (λ n. is_locked T n false) (sym (eqb-true id.off off (and_parts (id.off == off) (w || true) e).0)) ∙ there) ∙ sym (locked_is id.off w T off false));
      }
    where
      absorbed : (h e : Bool) → (e ≡ true → h ≡ true) → h ≡ (h || e)
      absorbed h true so = so refl ∙ sym (ap (λ b. b || true) (so refl))
      absorbed h false so = sym (none_then h)
  one_more id w T P has g false l = record {
    count = (let n = locked_count id.off w T in let m = planned_count (line_of id.off) w P g.rises in
        let z : one_unless (is_locked T id.off false) ≡ one_unless (any_at P (line_of id.off) false) = ap one_unless (sym (g.same id.off has) ∙ ap (λ t. t || any_at P (line_of id.off) false) l) in let c = g.count in omega (arith, n, m, z, c));
    rises = planned_rises (line_of id.off) w P g.rises;
    same = λ off h. ap (λ b. is_listed locks [] (line_of off) || b) (planned_is (line_of id.off) w P (line_of off) false)
        ∙ (last (is_listed locks [] (line_of off)) (any_at P (line_of off) false) (line_of id.off == line_of off && (w || true))
        ∙ ((λ i. g.same off h i || (same_lines id.off off has h i && (w || true))) ∙ sym (locked_is id.off w T off false)));
  }
    where
      same_lines : (a b : ℕ) → has_line a ≡ true → has_line b ≡ true → (line_of a == line_of b) ≡ (a == b)
      same_lines a b x y =
          let p = and_parts (a % 64 == 0) (nat_le 128 a) x in let q = and_parts (b % 64 == 0) (nat_le 128 b) y in
          let ae = eqb-true (a % 64) 0 p.0 in let al = leb-true 128 a p.1 in
          let be = eqb-true (b % 64) 0 q.0 in let bl = leb-true 128 b q.1 in ⊎_elim
          (λ (e : a ≡ b). eq-eqb (line_of a) (line_of b) (ap line_of e) ∙ sym (eq-eqb a b e))
          (λ (e : a ≢ b). ne_eqb (line_of a) (line_of b) (λ z. e (omega (arith, z, ae, al, be, bl))) ∙ sym (ne_eqb a b e)) (cases_eq a b)

  as_many : (wants : List Want) (T : List Lock) (P : List HeldLock) → AllByRecursion (λ (want : Want). (has_line want.id.off ≡ true) × (objects.line_of sh pool want.id ≡ Some (line_of want.id.off))) wants → Goes T P
      → length (all_locked wants T) ≡ length locks + length (planned_all sh pool (is_listed locks []) wants P)
  unfolding all_locked planned_all
  as_many [] T P all g = g.count
  as_many (want ∷ wants) T P all g = as_many wants (locked want.id.off want.write T) (planned_unless (is_listed locks [] (line_of want.id.off)) (line_of want.id.off) want.write P) all.1
      (one_more want.id want.write T P all.0.0 g (is_listed locks [] (line_of want.id.off)) refl)
      ∙ ap (λ o. length locks + length (planned_all sh pool (is_listed locks []) wants (planned_for (is_listed locks []) o want.write P))) (sym all.0.1)

  -- as many as the model's
  pub locks_count : (wants : List Want) (T : List Lock) → has_unplaced sh pool wants ≡ false → length T ≡ length locks → ((off : ℕ) (write : Bool) → is_locked T off write ≡ is_in_locks locks off write)
      → length (all_locked wants T) ≡ length locks + length (wanted sh pool locks [] wants)
  locks_count wants T placed count same = as_many wants T [] (all wants (all_placed sh pool locks wants wants placed)) (record {
    count = (let c = count in omega (arith, c));
    rises = tt;
    same = λ off h. none_then (is_listed locks [] (line_of off)) ∙ (sym (listed_is locks (line_of off)) ∙ sym (same off false ∙ ap (λ b. b && any_at locks (line_of off) false) h));
  })
    where
      all : (more : List Want) → AllByRecursion (λ (want : Want). is_placed sh pool want.id ≡ true) more
          → AllByRecursion (λ (want : Want). (has_line want.id.off ≡ true) × (objects.line_of sh pool want.id ≡ Some (line_of want.id.off))) more
      all [] p = tt
      all (want ∷ more) p = (placed_parts sh pool locks wants want.id p.0, all more p.1)
