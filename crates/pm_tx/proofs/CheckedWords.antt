-- PENDING WORDS ARE CHECKED, one by one: the lane stays at work, and what the words come to
-- stays as it looks at more.
use Rattle.std.proofs.Common.{◌≡◌, ℕ, zero, suc, ◌+◌, ◌/◌, ◌-◌, ◌<◌, ◌≤◌, inl, inr, ⊎_elim, Bool, true, false, not, ◌==◌, ◌&&◌, ◌||◌, nat_lt, Contains, List, [], ◌∷◌, ◌++◌, length, map, slice_index_or, take, refl, sym, ap, ◌∙◌, subst, arith, Some, Result, Ok, Err}
use Rattle.std.specs.List.{list_any}
use Rattle.std.specs.Option.{option_map_or}
use Rattle.std.proofs.lemmas.Bool.{and_parts, ltb-true, or_left, or_right}
use Rattle.std.proofs.lemmas.Option.{none-some, same_Some}
use Rattle.std.proofs.lemmas.List.{length-map, take_all}
use Rattle.std.proofs.lemmas.List.Folds.{list_any-append}
use Rattle.std.proofs.lemmas.List.Elements.{Contains-append_left, Contains-append_right}
use Rattle.pm_model.specs.Pending.{SetWord}
use Rattle.pm_model.specs.Refusals.{Test, first_of}
use Rattle.pm_objects.specs.declared.calls.Operation.{Operation}
use Rattle.pm_objects.specs.declared.calls.Operation.TheVariants.{Read}
use Rattle.pm_objects.specs.declared.ids.Oid.{Oid}
use Rattle.pm_objects.specs.declared.refusal.Refusal.{Refusal}
use Rattle.pm_objects.specs.declared.refusal.Refusal.TheVariants as refusal
use Rattle.pm_view.specs.View.{View}
use Rattle.pm_view.specs.Views.{value_in}
use Rattle.pm_world.specs.LaneFields.{Fields, Standing, Works, moved}
use Rattle.pm_world.specs.declared.lane.Lane.{Lane}
use Rattle.pm_world.specs.declared.lane.PendingAction.{PendingAction}
use Rattle.pm_world.specs.declared.lane.PendingAction.TheVariants.{Set}
use Rattle.pm_crash.specs.Looked.{KnowsSize}
use Rattle.pm_call.specs.At.{At}
use Rattle.pm_call.specs.Did.{After, Checked, Found, IsRefused}
use Rattle.pm_call.specs.Held.{Looks, is_in_locks}
use Rattle.pm_call.specs.Publishing.{HasWord, IsWordSized, is_past_end, is_unheld, words_pending}
use Rattle.pm_call.specs.RangeLaws.{KnowsSizeSeen}
use Rattle.pm_call.specs.Ranges.{HasRange, is_held_so}
use Rattle.pm_call.specs.Waiting.{listed_set, pending_now}
use Rattle.pm_call.proofs.AddedLanes.{at_once}
use Rattle.pm_call.proofs.Calls.{after_then}
use Rattle.pm_call.proofs.Looking.{looked_at, looked_values, looks_stay}
use Rattle.pm_call.proofs.Noting.{all_map}
use Rattle.pm_call.proofs.PublishedWords.{all_both, none_unheld}
use Rattle.pm_call.proofs.RangeRefusals as ranges
use Rattle.pm_tx.specs.Publishing.{ActionChecked, AreChecked, JudgedWords, PassesEnd, WordsChecked, earlier}

-- ---- LOOKS change claims alone, and what was known stays known

looks_claims : (n : ℕ) (v w : View) → Looks n v w → w ≡ record v { claims = w.claims }
unfolding Looks
looks_claims zero v w l = ap (λ (y : View). record y { claims = w.claims }) l
looks_claims (suc n) v w l =
    looks_claims n l.0 w l.2 ∙ ap (λ (y : View). record y { claims = w.claims }) l.1.then

looks_values : (n : ℕ) (s : Standing) (w : View) → At s → Looks n s.view w → (u z : ℕ)
    → value_in s.view u ≡ Some z → value_in w u ≡ Some z
unfolding Looks
looks_values zero s w at l u z e = ap (λ (y : View). value_in y u) l ∙ e
looks_values (suc n) s w at l u z e =
    looks_values n (moved s l.0) w (looked_at s s.level at l.0 l.1) l.2 u z
    (looked_values s s.level at l.0 l.1 u z e)

module _ (s : Standing) (w : View) (same : w ≡ record s.view { claims = w.claims })
    (values : (u z : ℕ) → value_in s.view u ≡ Some z → value_in w u ≡ Some z) where
  abbrev t : Standing
  t = moved s w

  pub words_same : words_pending (moved s w) ≡ words_pending s
  words_same = ap (λ (y : View). (pending_now y).sets) same

  held_same : (id : Oid) (write : Bool) → is_held_so t id write ≡ is_held_so s id write
  held_same id write =
      ap (λ (y : View). id.pool == y.fixed.pool && is_in_locks s.locks id.off write) same

  unheld_same : (words : List SetWord)
      → list_any (is_unheld t) words ≡ list_any (is_unheld s) words
  unheld_same words = λ i. list_any (λ (a : SetWord). not (held_same a.id true i)) words

  word_stays : (a : SetWord) → HasWord s a → HasWord t a
  word_stays a r = record {
    pool = r.pool ∙ sym (ap (λ (y : View). y.fixed.pool) same);
    locked = r.locked;
    size = r.size;
    sized = values (a.id.off / 8 - 7) r.size r.sized;
    small = r.small;
    inside = r.inside;
  }

  sized_stays : (a : SetWord) → IsWordSized s a → IsWordSized t a
  sized_stays a sized = ⊎_elim
      (λ (k : KnowsSizeSeen s a.id). inl (record {
        size = k.size;
        sized = values (a.id.off / 8 - 7) k.size k.sized;
        small = k.small;
      }))
      (λ (none : is_held_so s a.id false ≡ false). inr (held_same a.id false ∙ none)) sized

  past_stays : (a : SetWord) → PassesEnd s a → PassesEnd t a
  past_stays a p = record {
    size = p.size;
    sized = values (a.id.off / 8 - 7) p.size p.sized;
    small = p.small;
    past = p.past;
  }

  judged_stays : (words : List SetWord) (result : Result (Unit {0}) Refusal)
      → JudgedWords s words result → JudgedWords t words result
  judged_stays words (Ok done) j = all_map (HasWord s) (HasWord t) words word_stays j
  judged_stays words (Err refusal.NotLocked) j = unheld_same words ∙ j
  judged_stays words (Err refusal.OutOfRange) j =
      (unheld_same words ∙ j.0, (j.1.0, j.1.1, past_stays j.1.0 j.1.2))
  judged_stays words (Err r) j = absurd j

  pub checked_stays : (words : List SetWord) (result : Result (Unit {0}) Refusal)
      → AreChecked s words result → AreChecked (moved s w) words result
  checked_stays words result c = (
    all_map (IsWordSized s) (IsWordSized t) words sized_stays c.0,
    judged_stays words result c.1,
  )

-- ---- WHAT TWO LISTS OF WORDS come to

module _ (s : Standing) (xs ys : List SetWord) where
  both : list_any (is_unheld s) (xs ++ ys)
      ≡ (list_any (is_unheld s) xs || list_any (is_unheld s) ys)
  both = list_any-append (is_unheld s) xs ys

  first_unheld : list_any (is_unheld s) xs ≡ true → list_any (is_unheld s) (xs ++ ys) ≡ true
  first_unheld e = both ∙ or_left (list_any (is_unheld s) xs) (list_any (is_unheld s) ys) e

  second_unheld : list_any (is_unheld s) ys ≡ true → list_any (is_unheld s) (xs ++ ys) ≡ true
  second_unheld e = both ∙ or_right (list_any (is_unheld s) xs) (list_any (is_unheld s) ys) e

  both_held : list_any (is_unheld s) xs ≡ false → list_any (is_unheld s) ys ≡ false
      → list_any (is_unheld s) (xs ++ ys) ≡ false
  both_held e f = both ∙ (λ i. e i || f i)

  abbrev Passes : List SetWord → Type 0
  Passes words = (a : SetWord) × Contains words a × PassesEnd s a

  first_passes : Passes xs → Passes (xs ++ ys)
  first_passes p = (p.0, Contains-append_left xs ys p.0 p.1, p.2)

  second_passes : Passes ys → Passes (xs ++ ys)
  second_passes p = (p.0, Contains-append_right xs ys p.0 p.1, p.2)

  judged_both : (one two : Result (Unit {0}) Refusal) → JudgedWords s xs one
      → JudgedWords s ys two → JudgedWords s (xs ++ ys) (earlier one two)
  judged_both one (Err refusal.NotLocked) j k = second_unheld k
  judged_both (Ok done) (Ok also) j k = all_both (HasWord s) xs ys j k
  judged_both (Ok done) (Err refusal.OutOfRange) j k =
      (both_held (none_unheld s xs j) k.0, second_passes k.1)
  judged_both (Ok done) (Err r) j k = absurd k
  judged_both (Err refusal.NotLocked) (Ok done) j k = first_unheld j
  judged_both (Err refusal.NotLocked) (Err refusal.OutOfRange) j k = first_unheld j
  judged_both (Err refusal.NotLocked) (Err r) j k = absurd k
  judged_both (Err refusal.OutOfRange) (Ok done) j k =
      (both_held j.0 (none_unheld s ys k), first_passes j.1)
  judged_both (Err refusal.OutOfRange) (Err refusal.OutOfRange) j k =
      (both_held j.0 k.0, first_passes j.1)
  judged_both (Err refusal.OutOfRange) (Err r) j k = absurd k
  judged_both (Err r) two j k = absurd j

  pub checked_both : (one two : Result (Unit {0}) Refusal) → AreChecked s xs one
      → AreChecked s ys two → AreChecked s (xs ++ ys) (earlier one two)
  checked_both one two c d =
      (all_both (IsWordSized s) xs ys c.0 d.0, judged_both one two c.1 d.1)

-- ---- ONE WORD, by a check of its range for reading, and of its lock for writing

module _ (t : Standing) (stands : At t) (a : SetWord) where
  abbrev reads : Operation
  reads = Read a.id a.off 8

  knows : (r : Refusal) → IsRefused t reads r → is_held_so t a.id false ≡ true
      → KnowsSize t.view [] a.id.off
  knows r refused held = refused.looks.sizes a.id false (0, omega arith, refl)
      (ranges.not_held t stands a.id false ∙ ap not held) (ranges.none_gone t stands a.id.off)

  sized_if : (r : Refusal) → IsRefused t reads r → IsWordSized t a
  sized_if r refused = by (is_held_so t a.id false) refl
    where
      by : (b : Bool) → is_held_so t a.id false ≡ b → IsWordSized t a
      by true e =
          let k = knows r refused e in
          inl (record { size = k.size; sized = k.seen; small = k.knows.small })
      by false e = inr e

  abbrev ends_by : Bool → Bool → List Test
  ends_by held past = (refusal.NotLocked, not held) ∷ (refusal.OutOfRange, past) ∷ []

  -- of an object that is held for writing, the range is refused for its end alone
  past_end : (r : Refusal) → IsRefused t reads r → is_held_so t a.id true ≡ true
      → (refusal.OutOfRange ≡ r) × PassesEnd t a
  unfolding first_of
  past_end r refused held = by (nat_lt k.size (a.off + 8)) refl first
    where
      read : is_held_so t a.id false ≡ true
      read = ranges.held_so t stands a.id true held

      k : KnowsSize t.view [] a.id.off
      k = knows r refused read

      test : nat_lt k.size (a.off + 8) ≡ is_past_end t a
      test = ap (λ o. nat_lt (option_map_or (λ n. n) o 0) (a.off + 8)) (sym k.seen)

      first : first_of (ends_by true (nat_lt k.size (a.off + 8))) ≡ Some r
      first = (λ i. first_of (ends_by (sym read i) (test i)))
          ∙ (sym (ranges.range_refusals t reads a.id a.off 8 false stands (refl, refl, refl, refl))
          ∙ refused.first)

      by : (b : Bool) → nat_lt k.size (a.off + 8) ≡ b → first_of (ends_by true b) ≡ Some r
          → (refusal.OutOfRange ≡ r) × PassesEnd t a
      by true e some = (
        same_Some refusal.OutOfRange r some,
        record {
          size = k.size;
          sized = k.seen;
          small = k.knows.small;
          past = ltb-true k.size (a.off + 8) e;
        },
      )
      by false e some = absurd (none-some r some)

  unheld_is : (b : Bool) → is_held_so t a.id true ≡ b → list_any (is_unheld t) (a ∷ []) ≡ not b
  unheld_is b e = (λ i. not (e i) || false) ∙ alone (not b)
    where
      alone : (c : Bool) → (c || false) ≡ c
      alone true = refl
      alone false = refl

  module _ {M : Type 0} (at : M → View → Type 0) (lane : Lane M) where
    abbrev Ranged : Result (Unit {0}) Refusal → Type 0
    Ranged result =
        Found {T = Unit {0}} at lane (λ s done. HasRange s a.id a.off 8 false) reads result t

    abbrev Came : Result (Unit {0}) Refusal → Type 0
    Came result = AreChecked t (a ∷ []) result × Works at lane t × At t

    pub works_of : (result : Result (Unit {0}) Refusal) → Ranged result → Works at lane t × At t
    works_of (Ok done) f = (f.1, f.2)
    works_of (Err r) f = (f.1, f.2)

    sized_by : (result : Result (Unit {0}) Refusal) → Ranged result → IsWordSized t a
    sized_by (Ok done) f = inl (record { size = f.0.size; sized = f.0.sized; small = f.0.small })
    sized_by (Err r) f = sized_if r f.0

    pub came_held : is_held_so t a.id true ≡ true → (result : Result (Unit {0}) Refusal)
        → Ranged result → Came result
    came_held held (Ok done) f = (
      (
        (sized_by (Ok done) f, tt),
        (
          record {
            pool = f.0.pool;
            locked = (and_parts (a.id.pool == t.view.fixed.pool)
                (is_in_locks t.locks a.id.off true) held).1;
            size = f.0.size;
            sized = f.0.sized;
            small = f.0.small;
            inside = f.0.inside;
          },
          tt,
        ),
      ),
      f.1,
      f.2,
    )
    came_held held (Err r) f =
        let p = past_end r f.0 held in
        subst (λ (q : Refusal). Came (Err q)) p.0 (
          ((sized_if r f.0, tt), (unheld_is true held, (a, (0, omega arith, refl), p.1))),
          f.1,
          f.2,
        )

    pub came_unheld : is_held_so t a.id true ≡ false → (result : Result (Unit {0}) Refusal)
        → Ranged result → Came (Err refusal.NotLocked)
    came_unheld none result f =
        let w = works_of result f in
        (((sized_by result f, tt), unheld_is false none), w.0, w.1)

-- an action that is a word is one
word_is : (id : Oid) (off value : ℕ) (a : SetWord) → Set id off value ≡ listed_set a
    → record { id = id; off = off; value = value } ≡ a
word_is id off value a e = λ i. record {
  id = (let p : id ≡ a.id = cc in p) i;
  off = (let p : off ≡ a.off = cc in p) i;
  value = (let p : value ≡ a.value = cc in p) i;
}

module _ {M : Type 0} (at : M → View → Type 0) (old new : Lane M) (id : Oid) (off value : ℕ)
    (ranged : Result (Unit {0}) Refusal) (held : Bool)
    (checked : Checked at old new (λ s (done : Unit {0}). HasRange s id off 8 false)
    (Read id off 8) ranged)
    (is_held : (s : Standing) → Works at new s → held ≡ is_held_so s id true) where
  abbrev a : SetWord
  a = record { id = id; off = off; value = value }

  -- where its check so came out at each standing, so it did
  by_word : (result : Result (Unit {0}) Refusal)
      → ((t : Standing) (stands : At t) → is_held_so t id true ≡ held
      → Ranged t stands a at new ranged → Came t stands a at new result)
      → ActionChecked at old new (Set id off value) result
  unfolding Checked WordsChecked ActionChecked
  by_word result came b e =
      subst (λ (c : SetWord). WordsChecked at old new (λ s. c ∷ []) result) (word_is id off value b e)
      (λ s works is. let c = checked s works is in
      let t : Standing = moved s c.view in
      let w = works_of t (looks_stay c.looks s s.level c.view is c.looked) a at new ranged c.holds in
      record {
        looks = c.looks;
        view = c.view;
        looked = c.looked;
        holds = came t w.1 (sym (is_held t w.0)) c.holds;
      })

  pub action_held : held ≡ true → ActionChecked at old new (Set id off value) ranged
  action_held e = by_word ranged (λ t stands h f. came_held t stands a at new (h ∙ e) ranged f)

  pub action_unheld : held ≡ false
      → ActionChecked at old new (Set id off value) (Err refusal.NotLocked)
  action_unheld e = by_word (Err refusal.NotLocked)
      (λ t stands h f. came_unheld t stands a at new (h ∙ e) ranged f)

-- ---- ALL OF THEM

-- the word at an index, which the lane lists there
pub record WordAt (words : List SetWord) (i : ℕ) : Type 0 where
  pub word : SetWord
  pub more : take (suc i) words ≡ take i words ++ word ∷ []
  pub there : (d : PendingAction) → slice_index_or (map listed_set words) i d ≡ listed_set word

word_at : (words : List SetWord) (i : ℕ) → i < length words → WordAt words i
word_at [] i low = absurd (omega (arith, low))
word_at (a ∷ words) zero low = record { word = a; more = refl; there = λ d. refl }
word_at (a ∷ words) (suc i) low =
    let w = word_at words i (omega (arith, low)) in
    record { word = w.word; more = ap (λ ws. a ∷ ws) w.more; there = w.there }

module _ {M : Type 0} (at : M → View → Type 0) where
  -- the first so many came to this
  pub record CheckedFirst (lane : Lane M) (n : ℕ) (result : Result (Unit {0}) Refusal)
      (t : Standing) : Type 0 where
    pub came : AreChecked t (take n (words_pending t)) result
    pub works : Works at lane t
    pub stands : At t

  pub none_checked : (lane : Lane M) (s : Standing) → Works at lane s → At s
      → After s (CheckedFirst lane 0 (Ok tt))
  none_checked lane s works is = at_once s (CheckedFirst lane 0 (Ok tt))
      (record { came = (tt, tt); works = works; stands = is })

  -- the lane lists the words
  pub words_listed : (lane : Lane M) (s : Standing) → Works at lane s → At s
      → lane.pending.items ≡ map listed_set (words_pending s)
  words_listed lane s works is = ap (λ (f : Fields). f.pending) works.fields ∙ is.pending.lists

  pub many_words : (lane : Lane M) (s : Standing) → Works at lane s → At s
      → length lane.pending.items ≡ length (words_pending s)
  many_words lane s works is =
      ap length (words_listed lane s works is) ∙ length-map (words_pending s) listed_set

  module _ (lane new : Lane M) (n : ℕ) (first second : Result (Unit {0}) Refusal)
      (action d : PendingAction) (low : n < length lane.pending.items)
      (is : action ≡ slice_index_or lane.pending.items n d)
      (checked : ActionChecked at lane new action second) where
    abbrev Come : Standing → List SetWord → Type 0
    Come t words = AreChecked t words (earlier first second)

    one_checked : (t : Standing) → CheckedFirst lane n first t
        → After t (CheckedFirst new (n + 1) (earlier first second))
    unfolding ActionChecked WordsChecked
    one_checked t c = record {
      looks = a.looks;
      view = a.view;
      looked = a.looked;
      holds = record { came = came; works = a.holds.1; stands = a.holds.2 };
    }
      where
        w : WordAt (words_pending t) n
        w = word_at (words_pending t) n
            (let e = many_words lane t c.works c.stands in omega (arith, low, e))

        action_is : action ≡ listed_set w.word
        action_is = is
            ∙ (ap (λ xs. slice_index_or xs n d) (words_listed lane t c.works c.stands) ∙ w.there d)

        a : After t (λ u. AreChecked u (w.word ∷ []) second × Works at new u × At u)
        a = checked w.word action_is t c.works c.stands

        same : a.view ≡ record t.view { claims = a.view.claims }
        same = looks_claims a.looks t.view a.view a.looked

        values : (u z : ℕ) → value_in t.view u ≡ Some z → value_in a.view u ≡ Some z
        values = looks_values a.looks t a.view c.stands a.looked

        came : Come (moved t a.view) (take (n + 1) (words_pending (moved t a.view)))
        came = subst (λ ws. Come (moved t a.view) (take (n + 1) ws)) (sym (words_same t a.view same values))
            (subst (λ k. Come (moved t a.view) (take k (words_pending t)))
            (let e : suc n ≡ n + 1 = omega arith in e) (subst (Come (moved t a.view)) (sym w.more)
            (checked_both (moved t a.view) (take n (words_pending t)) (w.word ∷ []) first second
            (checked_stays t a.view same values (take n (words_pending t)) first c.came)
            a.holds.0)))

    -- one more, wherever the looks so far led
    pub check_more : (s : Standing) → After s (CheckedFirst lane n first)
        → After s (CheckedFirst new (n + 1) (earlier first second))
    check_more s c = after_then s (CheckedFirst new (n + 1) (earlier first second)) (record {
      looks = c.looks;
      view = c.view;
      looked = c.looked;
      holds = one_checked (moved s c.view) c.holds;
    })

  module _ (old lane : Lane M) (n : ℕ) (result : Result (Unit {0}) Refusal) where
    -- the list is as long as it was
    pub many_still : (s : Standing) → Works at old s → At s → After s (CheckedFirst lane n result)
        → length lane.pending.items ≡ length old.pending.items
    many_still s works is c = many_words lane (moved s c.view) c.holds.works c.holds.stands
        ∙ (ap length (words_same s c.view (looks_claims c.looks s.view c.view c.looked)
        (looks_values c.looks s c.view is c.looked)) ∙ sym (many_words old s works is))

    pub all_checked : length old.pending.items ≤ n
        → ((s : Standing) → Works at old s → At s → After s (CheckedFirst lane n result))
        → WordsChecked at old lane words_pending result
    unfolding WordsChecked
    all_checked many checked s works is =
        let c = checked s works is in
        let t : Standing = moved s c.view in record {
          looks = c.looks;
          view = c.view;
          looked = c.looked;
          holds = (
            subst (λ ws. AreChecked t ws result)
                (take_all n (words_pending t) (let e = many_still s works is c in
                let f = many_words lane t c.holds.works c.holds.stands in
                omega (arith, many, e, f))) c.holds.came,
            c.holds.works,
            c.holds.stands,
          );
        }
