-- ONE MORE RECORD of an open call, over bits: what the lane's sight owes.
use Rattle.std.specs.Prelude.{List, [], ◌∷◌, ◌++◌, length, slice_index, slice_get}
use Rattle.std.specs.List.{list_any}
use Rattle.std.proofs.Common.{◌≤◌, ◌*◌, ◌%◌, ◌≡◌, ℕ, zero, suc, ◌+◌, ◌-◌, ◌/◌, ◌<◌, ◌⊎◌, inl, inr, ⊎_elim, nat_le, nat_lt, Bool, true, false, cond, ◌==◌, ◌&&◌, ◌||◌, refl, sym, ap, ◌∙◌, subst, arith, eq-eqb, ne_eqb, Option, None, Some}
use Rattle.std.proofs.lemmas.Bool.{eqb-true, leb-true, ltb-true, both_ways, and_parts, and_from, or_cases, or_left, or_right, cond-true}
use Rattle.pm_layout.specs.declared.shape.Shape.{Shape}
use Rattle.pm_layout.specs.Areas.{line_of_slot}
use Rattle.pm_view.specs.Changes.{Undrained, is_in_line}
use Rattle.pm_view.specs.Claims.{geometry}
use Rattle.pm_view.specs.Entries.{Entry, latest, redos, turn, first_of_two}
use Rattle.pm_view.specs.Log.{Open, Recorded, Log, old_in, old_of}
use Rattle.pm_view.specs.Places.{Place, InRun, InHuge, Descr, RootWord, block_of, is_data, place_after, is_after, distance}
use Rattle.pm_view.specs.View.{View}
use Rattle.pm_world.specs.States.{State, Diff, diff, given, Cells}
use Rattle.pm_world.specs.Sights.{is_made, is_recorded, is_slot_drained, is_logged_from, call_of, call_in, sight_of}
use Rattle.pm_world.specs.Lanes.{Ghost, owns, is_in_making, is_size, SightFits}
use Rattle.pm_world.proofs.Basics.{given_cond, some_cond}
use Rattle.pm_world.proofs.Frame.{some_first, fresh_given}

given_first : {A : Type 0} → (a c : Option A) → given a ≡ true → given (first_of_two a c) ≡ true
given_first None c t = absurd (both_ways false refl t)
given_first (Some y) c t = refl

given_second : {A : Type 0} → (a c : Option A) → given c ≡ true → given (first_of_two a c) ≡ true
given_second None c t = t
given_second (Some y) c t = refl

given_either : {A : Type 0} → (a c : Option A) → given (first_of_two a c) ≡ true → (given a ≡ true) ⊎ (given c ≡ true)
given_either None c e = inr e
given_either (Some y) c e = inl refl

-- ---- lists of records
pub recorded_cases : (rs : List Recorded) (r : Recorded) (p : Place) → is_recorded (rs ++ r ∷ []) p ≡ true → (is_recorded rs p ≡ true) ⊎ (given (old_in r p) ≡ true)
recorded_cases [] r p e = ⊎_elim (λ (t : given (old_in r p) ≡ true). inr t) (λ (t : false ≡ true). absurd (both_ways false refl t)) (given_either (old_in r p) None e)
recorded_cases (a ∷ rs) r p e = ⊎_elim (λ (t : given (old_in a p) ≡ true). inl (given_first (old_in a p) (old_of rs p) t))
    (λ (t : given (old_of (rs ++ r ∷ []) p) ≡ true). ⊎_elim (λ (y : is_recorded rs p ≡ true). inl (given_second (old_in a p) (old_of rs p) y)) (λ (y : given (old_in r p) ≡ true). inr y) (recorded_cases rs r p t)) (given_either (old_in a p) (old_of (rs ++ r ∷ []) p) e)

pub recorded_more : (rs : List Recorded) (r : Recorded) (p : Place) → is_recorded rs p ≡ true → is_recorded (rs ++ r ∷ []) p ≡ true
recorded_more [] r p e = absurd (both_ways false refl e)
recorded_more (a ∷ rs) r p e = ⊎_elim (λ (t : given (old_in a p) ≡ true). given_first (old_in a p) (old_of (rs ++ r ∷ []) p) t) (λ (t : given (old_of rs p) ≡ true). given_second (old_in a p) (old_of (rs ++ r ∷ []) p) (recorded_more rs r p t)) (given_either (old_in a p) (old_of rs p) e)

-- the old value of a word is the first's that has one
pub old_cases : (rs : List Recorded) (r : Recorded) (p : Place) (x : ℕ) → old_of (rs ++ r ∷ []) p ≡ Some x → (old_of rs p ≡ Some x) ⊎ (old_in r p ≡ Some x)
old_cases [] r p x e = go (old_in r p) e
  where
    go : (a : Option ℕ) → first_of_two a None ≡ Some x → (None ≡ Some x) ⊎ (a ≡ Some x)
    go None e = inl e
    go (Some y) e = inr e
old_cases (a ∷ rs) r p x e = go (old_in a p) e (old_cases rs r p x)
  where
    go : (a : Option ℕ) → first_of_two a (old_of (rs ++ r ∷ []) p) ≡ Some x → (old_of (rs ++ r ∷ []) p ≡ Some x → (old_of rs p ≡ Some x) ⊎ (old_in r p ≡ Some x)) → (first_of_two a (old_of rs p) ≡ Some x) ⊎ (old_in r p ≡ Some x)
    go None e f = f e
    go (Some y) e f = inl e

pub recorded_at : (rs : List Recorded) (j : ℕ) (r : Recorded) (p : Place) → slice_get rs j ≡ Some r → given (old_in r p) ≡ true → is_recorded rs p ≡ true
recorded_at [] j r p e t = absurd (both_ways false refl (ap given e))
recorded_at (a ∷ rs) zero r p e t = given_first (old_in a p) (old_of rs p) (subst (λ y. given (old_in y p) ≡ true) (sym (same a r e)) t)
  where
    value : Recorded → Option Recorded → Recorded
    value d None = d
    value d (Some y) = y

    same : (a r : Recorded) → Some a ≡ Some r → a ≡ r
    same a r e = ap (value a) e
recorded_at (a ∷ rs) (suc j) r p e t = given_second (old_in a p) (old_of rs p) (recorded_at rs j r p e t)

-- a record whose slot has an undrained word covers nothing yet
pub logged_more : (sh : Shape) (lane : ℕ) (c : Undrained) (changes : List Undrained) (j : ℕ) (rs : List Recorded) (r : Recorded) (p : Place) → c.word / 8 ≡ line_of_slot sh lane (j + length rs) → is_logged_from sh lane (c ∷ changes) j (rs ++ r ∷ []) p ≡ is_logged_from sh lane changes j rs p
logged_more sh lane c changes j [] r p e = ap (λ t. (given (old_in r p) && Rattle.std.specs.Prelude.not (t || list_any (is_in_line (line_of_slot sh lane j)) changes)) || false) (eq-eqb (c.word / 8) (line_of_slot sh lane j) (e ∙ omega arith)) ∙ none_ (given (old_in r p))
  where
    none_ : (t : Bool) → ((t && false) || false) ≡ false
    none_ true = refl
    none_ false = refl
logged_more sh lane c changes j (a ∷ rs) r p e = ap (λ t. (given (old_in a p) && Rattle.std.specs.Prelude.not (t || list_any (is_in_line (line_of_slot sh lane j)) changes)) || is_logged_from sh lane (c ∷ changes) (suc j) (rs ++ r ∷ []) p) (ne_eqb (c.word / 8) (line_of_slot sh lane j) (λ q. omega arith))
    ∙ ap (λ t. (given (old_in a p) && is_slot_drained sh lane changes j) || t) (logged_more sh lane c changes (suc j) rs r p (e ∙ omega arith))

-- ---- the words of a record
abbrev covers : Recorded → Place → Bool
covers r p = is_after r.place p && nat_lt (distance r.place p) (length r.old)

pub old_in_at : (r : Recorded) (p : Place) → given (old_in r p) ≡ true → (is_after r.place p ≡ true) × (distance r.place p < length r.old)
old_in_at r p e = let t = and_parts (is_after r.place p) (nat_lt (distance r.place p) (length r.old)) (num_cond (covers r p) (Some (slice_index r.old (distance r.place p))) e) in (t.0, ltb-true (distance r.place p) (length r.old) t.1)
  where
    num_cond : (t : Bool) (y : Option ℕ) → given (cond t y None) ≡ true → t ≡ true
    num_cond true y e = refl
    num_cond false y e = e

pub old_in_is : (r : Recorded) (p : Place) (x : ℕ) → old_in r p ≡ Some x → slice_index r.old (distance r.place p) ≡ x
old_in_is r p x e = go (covers r p) e
  where
    value : Option ℕ → ℕ
    value None = 0
    value (Some y) = y

    go : (t : Bool) → cond t (Some (slice_index r.old (distance r.place p))) None ≡ Some x → slice_index r.old (distance r.place p) ≡ x
    go true e = ap value e
    go false e = absurd (both_ways false refl (ap given e))

pub place_is : (p q : Place) → is_after p q ≡ true → place_after p (distance p q) ≡ q
place_is (InRun c w) (InRun d v) e = let t = and_parts (c == d) (nat_le w v) e in let l = leb-true w v t.1 in ap (λ y. InRun y (w + (v - w))) (eqb-true c d t.0) ∙ ap (λ y. InRun d y) (let q : w + (v - w) ≡ v = omega arith in q)
place_is (InRun c w) (InHuge d v) e = absurd (both_ways false refl e)
place_is (InRun c w) (Descr d) e = absurd (both_ways false refl e)
place_is (InRun c w) RootWord e = absurd (both_ways false refl e)
place_is (InHuge c w) (InRun d v) e = absurd (both_ways false refl e)
place_is (InHuge c w) (InHuge d v) e = let t = and_parts (nat_lt v 512) (nat_le (512 * c + w) (512 * d + v)) e in let s = ltb-true v 512 t.0 in let l = leb-true (512 * c + w) (512 * d + v) t.1 in
    let sum : w + ((512 * d + v) - (512 * c + w)) ≡ 512 * (d - c) + v = omega arith in let low : c ≤ d = omega arith in
    ap (λ n. InHuge (c + n / 512) (n % 512)) sum ∙ (ap (λ y. InHuge y ((512 * (d - c) + v) % 512)) (let q : c + (512 * (d - c) + v) / 512 ≡ d = omega arith in q) ∙ ap (λ y. InHuge d y) (let q : (512 * (d - c) + v) % 512 ≡ v = omega arith in q))
place_is (InHuge c w) (Descr d) e = absurd (both_ways false refl e)
place_is (InHuge c w) RootWord e = absurd (both_ways false refl e)
place_is (Descr c) (InRun d v) e = absurd (both_ways false refl e)
place_is (Descr c) (InHuge d v) e = absurd (both_ways false refl e)
place_is (Descr c) (Descr d) e = absurd (both_ways false refl e)
place_is (Descr c) RootWord e = absurd (both_ways false refl e)
place_is RootWord (InRun d v) e = absurd (both_ways false refl e)
place_is RootWord (InHuge d v) e = absurd (both_ways false refl e)
place_is RootWord (Descr d) e = absurd (both_ways false refl e)
place_is RootWord RootWord e = refl

-- what is asked of the record's words
pub record Records (S : State) (g : Ghost) (v : View) (r : Recorded) : Type 0 where
  pub reach : (p : Place) (b : ℕ) → given (old_in r p) ≡ true → owns g.geo S (sight_of v).hold p b ≡ true
  pub plain : (p : Place) → given (old_in r p) ≡ true → is_in_making (sight_of v).hold p ≡ false
  pub sizes : (p : Place) → given (old_in r p) ≡ true → is_size g.geo p ≡ false

module _ (sh : Shape) (cells : Cells) (S : State) (flies : ℕ → Diff → Type 0) (g : Ghost) (k : ℕ) (v : View) (f : SightFits sh cells S flies g k (record (sight_of v) { phase = Open })) (r : Recorded) (a : Records S g v r) where
  abbrev log : Log
  log = record v.log { records = v.log.records ++ r ∷ []; slot = [] }

  abbrev es : List Entry
  es = v.log.entries

  abbrev made : Place → ℕ → Bool
  made p b = is_made (turn (latest (redos v.log.entries)) (block_of (geometry v.fixed.shape v.claims) p b))

  fresh_cases : (p : Place) (b : ℕ) → given ((call_of v.fixed.shape v.claims log).fresh p b) ≡ true → (given ((call_in v).fresh p b) ≡ true) ⊎ (given (old_in r p) ≡ true)
  fresh_cases p b y = let t = given_cond (is_data p && (made p b || is_recorded (v.log.records ++ r ∷ []) p)) ((sight_of v).picture p b) y in let z = and_parts (is_data p) (made p b || is_recorded (v.log.records ++ r ∷ []) p) t.0 in
      let old : (made p b || is_recorded v.log.records p) ≡ true → given ((call_in v).fresh p b) ≡ true = λ q. ap given (cond-true (is_data p && (made p b || is_recorded v.log.records p)) ((sight_of v).picture p b) None (and_from (is_data p) (made p b || is_recorded v.log.records p) z.0 q)) ∙ t.1 in
      ⊎_elim (λ (m : made p b ≡ true). inl (old (or_left (made p b) (is_recorded v.log.records p) m)))
      (λ (q : is_recorded (v.log.records ++ r ∷ []) p ≡ true). ⊎_elim (λ (e : is_recorded v.log.records p ≡ true). inl (old (or_right (made p b) (is_recorded v.log.records p) e))) (λ (e : given (old_in r p) ≡ true). inr e) (recorded_cases v.log.records r p q)) (or_cases (made p b) (is_recorded (v.log.records ++ r ∷ []) p) z.1)

  diff_cases : (p : Place) (b : ℕ) → given (diff (call_of v.fixed.shape v.claims log) p b) ≡ true → (given (diff (call_in v) p b) ≡ true) ⊎ (given (old_in r p) ≡ true)
  diff_cases p b t = ⊎_elim (λ (q : given (latest (redos v.log.entries) p b) ≡ true). inl (some_first (latest (redos v.log.entries) p b) ((call_in v).fresh p b) q))
      (λ (q : given ((call_of v.fixed.shape v.claims log).fresh p b) ≡ true). ⊎_elim (λ (y : given ((call_in v).fresh p b) ≡ true). inl (fresh_given (latest (redos v.log.entries) p b) ((call_in v).fresh p b) y)) (λ (y : given (old_in r p) ≡ true). inr y) (fresh_cases p b q))
      (given_either (latest (redos v.log.entries) p b) ((call_of v.fixed.shape v.claims log).fresh p b) t)

  -- THE LANE'S SIGHT FITS, with one more record that is not drained
  pub recorded_fits : SightFits sh cells S flies g k (record (sight_of v) { phase = Open; call = call_of v.fixed.shape v.claims (record v.log { records = v.log.records ++ r ∷ []; slot = [] }) })
  recorded_fits = record {
    hold = f.hold;
    bits = f.bits;
    picture = f.picture;
    turns = f.turns;
    call = record { flight = tt; todo = f.call.todo; descr = f.call.descr };
    reach = λ p b t. ⊎_elim (λ (q : given (diff (call_in v) p b) ≡ true). f.reach p b q) (λ (q : given (old_in r p) ≡ true). a.reach p b q) (diff_cases p b t);
    plain = λ p b t. ⊎_elim (λ (q : given (diff (call_in v) p b) ≡ true). f.plain p b q) (λ (q : given (old_in r p) ≡ true). a.plain p q) (diff_cases p b t);
    logged = f.logged;
    stored = λ p b u t. let z = given_cond (is_data p && (made p b || is_recorded v.log.records p)) ((sight_of v).picture p b) (f.stored p b u t) in let y = and_parts (is_data p) (made p b || is_recorded v.log.records p) z.0 in
        let more : (made p b || is_recorded (v.log.records ++ r ∷ []) p) ≡ true = ⊎_elim (λ (q : made p b ≡ true). or_left (made p b) (is_recorded (v.log.records ++ r ∷ []) p) q) (λ (q : is_recorded v.log.records p ≡ true). or_right (made p b) (is_recorded (v.log.records ++ r ∷ []) p) (recorded_more v.log.records r p q)) (or_cases (made p b) (is_recorded v.log.records p) y.1) in
        ap given (cond-true (is_data p && (made p b || is_recorded (v.log.records ++ r ∷ []) p)) ((sight_of v).picture p b) None (and_from (is_data p) (made p b || is_recorded (v.log.records ++ r ∷ []) p) y.0 more)) ∙ z.1;
    fresh = λ p b y q. some_cond (is_data p && (made p b || is_recorded (v.log.records ++ r ∷ []) p)) ((sight_of v).picture p b) y q;
    sizes = λ p b s. ((f.sizes p b s).0, λ q. ⊎_elim (λ (y : given ((call_in v).fresh p b) ≡ true). (f.sizes p b s).1 y) (λ (y : given (old_in r p) ≡ true). absurd (both_ways (is_size g.geo p) (a.sizes p y) s)) (fresh_cases p b q));
    born = λ y. absurd (both_ways false refl y);
    guarded = λ y. absurd (both_ways false refl y);
    soiled = f.soiled;
  }
