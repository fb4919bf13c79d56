-- THE PENDING WORDS ARE LOOKED AT, one by one, by a lane that holds their objects: what was seen of
-- the first stays so as it looks at more.
use Rattle.std.proofs.Common.{◌≡◌, ℕ, zero, suc, ◌+◌, ◌/◌, ◌-◌, ◌^◌, ◌<◌, ◌≤◌, Bool, true, false, ◌==◌, ◌%◌, nat_le, ◌&&◌, Contains, List, [], ◌∷◌, ◌++◌, length, map, slice_index_or, take, refl, sym, ap, ◌∙◌, subst, arith, Some}
use Rattle.std.specs.List.{AllByRecursion}
use Rattle.std.proofs.lemmas.Bool.{and_parts, leb-true}
use Rattle.std.proofs.lemmas.List.{length-map, take_all}
use Rattle.std.proofs.lemmas.List.Elements.{Contains-append_left, Contains-append_right}
use Rattle.pm_layout.specs.Chunks.{words_of}
use Rattle.pm_model.specs.Pending.{SetWord}
use Rattle.pm_objects.specs.declared.ids.Oid.{Oid}
use Rattle.pm_view.specs.Steps.Step.{Load}
use Rattle.pm_view.specs.View.{View}
use Rattle.pm_view.specs.Views.{after, value_in}
use Rattle.pm_world.specs.InWorld.{InWorld}
use Rattle.pm_world.specs.LaneFields.{Rests, Standing, moved}
use Rattle.pm_world.specs.declared.lane.Lane.{Lane}
use Rattle.pm_world.specs.declared.lane.PendingAction.{PendingAction}
use Rattle.pm_world.specs.declared.lane.PendingAction.TheVariants.{Set}
use Rattle.pm_objects.specs.declared.calls.Want.{Want}
use Rattle.pm_call.specs.At.{IsAt}
use Rattle.pm_call.specs.Did.{After}
use Rattle.pm_call.specs.Held.{Looks}
use Rattle.pm_call.specs.Publications.{EndsPast, HoldsWords, SeesWord, wants_to_set}
use Rattle.pm_call.specs.Publishing.{words_pending}
use Rattle.pm_call.specs.RangeLaws.{KnowsSizeSeen}
use Rattle.pm_call.specs.Waiting.{listed_set, pending_now}
use Rattle.pm_call.proofs.AddedLanes.{at_once}
use Rattle.pm_call.proofs.Calls.{after_then}
use Rattle.pm_call.proofs.EntryLooks.{MayLook}
use Rattle.pm_call.proofs.HeldWords.{as_begun, begin_told, begun_at, calling, looks_called, looks_claims}
use Rattle.pm_call.proofs.Looking.{looked_at, looked_values}
use Rattle.pm_call.proofs.LockedRanges.{range_low}
use Rattle.pm_call.proofs.LonePublications.{at_of}
use Rattle.pm_call.proofs.Noting.{all_map}
use Rattle.pm_call.proofs.PendingLooks.{IsHeldWord, held_words, holds_on, line, look, may_see_size, may_see_word, value_then, values_then}
use Rattle.pm_call.proofs.PublishedWords.{all_both}
use Rattle.pm_call.proofs.RangeLooks.{after_look}
use Rattle.pm_call.specs.PublicationParts.{ActionLooked, IsHolding, IsPendingWord, LookedSo, SeenSo, WordsLooked}
use Rattle.pm_call.proofs.WordsSet.{listed_words}

-- what the first words came to: each was seen, or one passes its object's end, of which all sizes are
-- known
abbrev pub FirstsSo : Bool → List SetWord → Standing → Type 0
FirstsSo true ws t = AllByRecursion (SeesWord t) ws
FirstsSo false ws t = AllByRecursion (λ (a : SetWord). KnowsSizeSeen t a.id) ws
    × ((a : SetWord) × Contains ws a × EndsPast t a)

-- ---- ONE WORD
module _ {M : Type 0} (at : M → View → Type 0) (old : Lane M) (s : Standing) (rests : Rests at old s)
    (h : HoldsWords s) (a : SetWord) (among : Contains (words_pending s) a) where
  held : IsHeldWord s a
  held = at_of (IsHeldWord s) (words_pending s) a (held_words s h) among

  abbrev size_at : ℕ
  size_at = a.id.off / 8 - 7

  size_look : MayLook s.view (a.id.off / 8 - 7)
  size_look = may_see_size s h a held

  pub size_inside : a.id.off / 8 - 7 < words_of s.view.fixed.shape
  size_inside = size_look.inside

  module _ (size : ℕ) (small : size < 2 ^ 64) (world : InWorld s.view (a.id.off / 8 - 7) size)
    where
      abbrev pub sized : Standing
      sized = moved s (after s.view (Load (a.id.off / 8 - 7) size))

      holds_sized : HoldsWords sized
      holds_sized = holds_on s h (a.id.off / 8 - 7) size size_look world

      known_size : value_in sized.view (a.id.off / 8 - 7) ≡ Some size
      known_size = value_then s h (a.id.off / 8 - 7) size size_look world

      held_sized : IsHeldWord sized a
      held_sized = record { pool = held.pool; locked = held.locked; word = held.word }

      by_look : {P : Standing → Type 0} → P sized → After s P
      by_look {P} p = after_look s (after s.view (Load (a.id.off / 8 - 7) size)) P
          (look s h (a.id.off / 8 - 7) size size_look world) p

      -- it passes the end
      pub ends_past : (new : Lane M) → Rests at new sized → size < a.off + 8
          → After s (λ t. SeenSo false a t × Rests at new t × HoldsWords t)
      ends_past new r past = by_look {P = λ t. SeenSo false a t × Rests at new t × HoldsWords t} (
        record { size = size; sized = known_size; small = small; past = past },
        r,
        holds_sized,
      )

      -- or the word is looked at
      module _ (inside : a.off + 8 ≤ size) where
        word_look : MayLook sized.view ((a.id.off + a.off) / 8)
        word_look = may_see_word sized holds_sized a held_sized size known_size inside

        pub word_inside : (a.id.off + a.off) / 8 < words_of s.view.fixed.shape
        word_inside = word_look.inside

        module _ (value : ℕ) (few : value < 2 ^ 64)
            (seen : InWorld sized.view ((a.id.off + a.off) / 8) value) where
          abbrev pub known : Standing
          known = moved sized (after sized.view (Load ((a.id.off + a.off) / 8) value))

          pub word_seen : (new : Lane M) → Rests at new known
              → After s (λ t. SeenSo true a t × Rests at new t × HoldsWords t)
          word_seen new r = by_then (
            record {
              range = record {
                pool = held.pool;
                locked = held.locked;
                size = size;
                sized = values_then sized holds_sized ((a.id.off + a.off) / 8) value word_look seen
                    (a.id.off / 8 - 7) size known_size;
                small = small;
                inside = inside;
              };
              word = record {
                value = value;
                known = value_then sized holds_sized ((a.id.off + a.off) / 8) value word_look seen;
                small = few;
              };
            },
            r,
            holds_on sized holds_sized ((a.id.off + a.off) / 8) value word_look seen,
          )
            where
              by_then : SeenSo true a known × Rests at new known × HoldsWords known
                  → After s (λ t. SeenSo true a t × Rests at new t × HoldsWords t)
              by_then p = after_then s (λ t. SeenSo true a t × Rests at new t × HoldsWords t)
                  (by_look {P = λ u. After u (λ t. SeenSo true a t × Rests at new t × HoldsWords t)}
                  (after_look sized (after sized.view (Load ((a.id.off + a.off) / 8) value))
                  (λ t. SeenSo true a t × Rests at new t × HoldsWords t)
                  (look sized holds_sized ((a.id.off + a.off) / 8) value word_look seen) p))

      -- the word has a place
      pub word_fits : a.off + 8 ≤ size → a.id.off + a.off < 2 ^ 64
      word_fits inside =
          let g = as_begun (wants_to_set holds_sized.before) sized in
          let l = range_low g (begun_at sized holds_sized) a.id a.off 8 true (record {
            pool = held.pool;
            locked = held.locked;
            size = size;
            sized = known_size;
            small = small;
            inside = inside;
          }) in omega (arith, l)

  pub off_high : 7 ≤ a.id.off / 8
  off_high =
      let l = and_parts (a.id.off % 64 == 0) (nat_le 128 a.id.off) (line s h a held) in
      let high = leb-true 128 a.id.off l.1 in
      omega (arith, high)

-- ---- an action that is one of the words

word_is : (id : Oid) (off value : ℕ) (a : SetWord) → Set id off value ≡ listed_set a
    → record { id = id; off = off; value = value } ≡ a
word_is id off value a e = λ i. record {
  id = (let p : id ≡ a.id = cc in p) i;
  off = (let p : off ≡ a.off = cc in p) i;
  value = (let p : value ≡ a.value = cc in p) i;
}

module _ {M : Type 0} (at : M → View → Type 0) (old : Lane M) (action : PendingAction) where
  module _ (id : Oid) (off value : ℕ) (is : action ≡ Set id off value) where
    abbrev pub word : SetWord
    word = record { id = id; off = off; value = value }

    pub word_among : (lane : IsHolding at old (IsPendingWord action))
        → Contains (words_pending lane.standing) word
    word_among lane =
        let h = lane.holds in
        subst (Contains (words_pending lane.standing))
        (sym (word_is id off value h.0 (sym is ∙ h.2))) h.1

    pub action_looked : (new : Lane M) (inside : Bool) → ((s : Standing) → Rests at old s
        → HoldsWords s → Contains (words_pending s) word
        → After s (λ t. SeenSo inside word t × Rests at new t × HoldsWords t))
        → ActionLooked at old new action inside
    unfolding ActionLooked
    action_looked new inside so s a rests h among e =
        let same = word_is id off value a (sym is ∙ e) in
        subst (λ (b : SetWord). After s (λ t. SeenSo inside b t × Rests at new t × HoldsWords t))
        same (so s rests h (subst (Contains (words_pending s)) (sym same) among))

  pub no_word : ((id : Oid) (off value : ℕ) → action ≡ Set id off value → ⊥)
      → ActionLooked at old old action true
  unfolding ActionLooked
  no_word never s a rests h among e = absurd (never a.id a.off a.value e)

-- ---- LOOKS KEEP what was known

looks_values : (n : ℕ) (g : Standing) (level : ℕ) (w : View) → IsAt g level → Looks n g.view w
    → (y z : ℕ) → value_in g.view y ≡ Some z → value_in w y ≡ Some z
unfolding Looks
looks_values zero g level w is l y z e = ap (λ (v : View). value_in v y) l ∙ e
looks_values (suc n) g level w is l y z e =
    looks_values n (moved g l.0) level w (looked_at g level is l.0 l.1) l.2 y z
    (looked_values g level is l.0 l.1 y z e)

module _ (t : Standing) (h : HoldsWords t) (n : ℕ) (w : View) (l : Looks n t.view w) where
  abbrev wants : List Want
  wants = wants_to_set h.before

  values : (y z : ℕ) → value_in t.view y ≡ Some z → value_in w y ≡ Some z
  values y z e = looks_values n (as_begun wants t) 1 (calling (begin_told wants) w) (begun_at t h)
      (looks_called (begin_told wants) n t.view w l) y z e

  same : w ≡ record t.view { claims = w.claims }
  same = looks_claims n t.view w l

  sees_on : (a : SetWord) → SeesWord t a → SeesWord (moved t w) a
  sees_on a k = record {
    range = record {
      pool = k.range.pool ∙ sym (ap (λ (y : View). y.fixed.pool) same);
      locked = k.range.locked;
      size = k.range.size;
      sized = values (a.id.off / 8 - 7) k.range.size k.range.sized;
      small = k.range.small;
      inside = k.range.inside;
    };
    word = record {
      value = k.word.value;
      known = values ((a.id.off + a.off) / 8) k.word.value k.word.known;
      small = k.word.small;
    };
  }

  size_on : (a : SetWord) → KnowsSizeSeen t a.id → KnowsSizeSeen (moved t w) a.id
  size_on a k = record {
    size = k.size;
    sized = values (a.id.off / 8 - 7) k.size k.sized;
    small = k.small;
  }

  firsts_on : (inside : Bool) (ws : List SetWord) → FirstsSo inside ws t
      → FirstsSo inside ws (moved t w)
  firsts_on true ws f = all_map (SeesWord t) (SeesWord (moved t w)) ws sees_on f
  firsts_on false ws f = (
    all_map (λ (a : SetWord). KnowsSizeSeen t a.id)
        (λ (a : SetWord). KnowsSizeSeen (moved t w) a.id) ws size_on f.0,
    (
      f.1.0,
      f.1.1,
      record {
        size = f.1.2.size;
        sized = values (f.1.0.id.off / 8 - 7) f.1.2.size f.1.2.sized;
        small = f.1.2.small;
        past = f.1.2.past;
      },
    ),
  )

  pub words_on : words_pending (moved t w) ≡ words_pending t
  words_on = ap (λ (y : View). (pending_now y).sets) same

-- one more word
size_seen_of : (inside : Bool) (t : Standing) (a : SetWord) → SeenSo inside a t → KnowsSizeSeen t a.id
size_seen_of true t a k =
    record { size = k.range.size; sized = k.range.sized; small = k.range.small }
size_seen_of false t a k = record { size = k.size; sized = k.sized; small = k.small }

sizes_of : (inside : Bool) (t : Standing) (ws : List SetWord) → FirstsSo inside ws t
    → AllByRecursion (λ (a : SetWord). KnowsSizeSeen t a.id) ws
sizes_of true t ws f = all_map (SeesWord t) (λ (a : SetWord). KnowsSizeSeen t a.id) ws
    (λ a k. size_seen_of true t a k) f
sizes_of false t ws f = f.0

firsts_more : (inside seen : Bool) (t : Standing) (ws : List SetWord) (a : SetWord)
    → FirstsSo inside ws t → SeenSo seen a t → FirstsSo (inside && seen) (ws ++ a ∷ []) t
firsts_more inside seen t ws a f k = by inside seen f k
  where
    sizes : (i j : Bool) → FirstsSo i ws t → SeenSo j a t
        → AllByRecursion (λ (b : SetWord). KnowsSizeSeen t b.id) (ws ++ a ∷ [])
    sizes i j f k = all_both (λ (b : SetWord). KnowsSizeSeen t b.id) ws (a ∷ [])
        (sizes_of i t ws f) (size_seen_of j t a k, tt)

    by : (i j : Bool) → FirstsSo i ws t → SeenSo j a t → FirstsSo (i && j) (ws ++ a ∷ []) t
    by true true f k = all_both (SeesWord t) ws (a ∷ []) f (k, tt)
    by true false f k = (
      sizes true false f k,
      (a, Contains-append_right ws (a ∷ []) a (0, omega arith, refl), k),
    )
    by false j f k = (
      sizes false j f k,
      (f.1.0, Contains-append_left ws (a ∷ []) f.1.0 f.1.1, f.1.2),
    )

record WordAt (words : List SetWord) (i : ℕ) : Type 0 where
  word : SetWord
  among : Contains words word
  more : take (suc i) words ≡ take i words ++ word ∷ []
  there : (d : PendingAction) → slice_index_or (map listed_set words) i d ≡ listed_set word

word_at : (words : List SetWord) (i : ℕ) → i < length words → WordAt words i
word_at [] i low = absurd (omega (arith, low))
word_at (a ∷ words) zero low =
    record { word = a; among = (0, omega arith, refl); more = refl; there = λ d. refl }
word_at (a ∷ words) (suc i) low =
    let w = word_at words i (omega (arith, low)) in record {
      word = w.word;
      among = (suc w.among.0, (let k = w.among.1 in omega (arith, k)), w.among.2);
      more = ap (λ ws. a ∷ ws) w.more;
      there = w.there;
    }

module _ {M : Type 0} (at : M → View → Type 0) where
  -- the first so many came to this
  pub record LookedFirst (lane : Lane M) (n : ℕ) (inside : Bool) (t : Standing) : Type 0 where
    pub came : FirstsSo inside (take n (words_pending t)) t
    pub rests : Rests at lane t
    pub holding : HoldsWords t

  pub none_looked : (lane : Lane M) (s : Standing) → Rests at lane s → HoldsWords s
      → After s (LookedFirst lane 0 true)
  none_looked lane s rests h = at_once s (LookedFirst lane 0 true)
      (record { came = tt; rests = rests; holding = h })

  many_words : (lane : Lane M) (s : Standing) → Rests at lane s → HoldsWords s
      → length lane.pending.items ≡ length (words_pending s)
  many_words lane s rests h = ap length (listed_words at lane s rests h)
      ∙ length-map (words_pending s) listed_set

  -- the action there is one of the words
  pub pending_there : (lane : Lane M) (n : ℕ) (d action : PendingAction)
      → n < length lane.pending.items → action ≡ slice_index_or lane.pending.items n d
      → (t : Standing) → Rests at lane t → HoldsWords t → IsPendingWord action t
  pending_there lane n d action low is t rests h =
      let e = many_words lane t rests h in
      let w = word_at (words_pending t) n (omega (arith, low, e)) in (
        w.word,
        w.among,
        is ∙ (ap (λ xs. slice_index_or xs n d) (listed_words at lane t rests h) ∙ w.there d),
      )

  module _ (lane new : Lane M) (n : ℕ) (inside seen : Bool) (action d : PendingAction)
      (low : n < length lane.pending.items)
      (is : action ≡ slice_index_or lane.pending.items n d)
      (looked : ActionLooked at lane new action seen) where
    one_looked : (t : Standing) → LookedFirst lane n inside t
        → After t (LookedFirst new (n + 1) (inside && seen))
    unfolding ActionLooked
    one_looked t c =
        let e = many_words lane t c.rests c.holding in
        let w = word_at (words_pending t) n (omega (arith, low, e)) in
        let a = looked t w.word c.rests c.holding w.among
        (is ∙ (ap (λ xs. slice_index_or xs n d) (listed_words at lane t c.rests c.holding)
        ∙ w.there d)) in record {
          looks = a.looks;
          view = a.view;
          looked = a.looked;
          holds = record {
            came = subst (λ ws. FirstsSo (inside && seen) (take (n + 1) ws) (moved t a.view))
                (sym (words_on t c.holding a.looks a.view a.looked))
                (subst (λ k. FirstsSo (inside && seen) (take k (words_pending t)) (moved t a.view))
                (let z : suc n ≡ n + 1 = omega arith in z)
                (subst (λ ws. FirstsSo (inside && seen) ws (moved t a.view)) (sym w.more)
                (firsts_more inside seen (moved t a.view) (take n (words_pending t)) w.word
                (firsts_on t c.holding a.looks a.view a.looked inside (take n (words_pending t))
                c.came) a.holds.0)));
            rests = a.holds.1;
            holding = a.holds.2;
          };
        }

    pub look_more : (s : Standing) → After s (LookedFirst lane n inside)
        → After s (LookedFirst new (n + 1) (inside && seen))
    look_more s c = after_then s (LookedFirst new (n + 1) (inside && seen)) (record {
      looks = c.looks;
      view = c.view;
      looked = c.looked;
      holds = one_looked (moved s c.view) c.holds;
    })

  module _ (old lane : Lane M) (n : ℕ) (inside : Bool) where
    pub many_still : (s : Standing) → Rests at old s → HoldsWords s
        → After s (LookedFirst lane n inside)
        → length lane.pending.items ≡ length old.pending.items
    many_still s rests h c = many_words lane (moved s c.view) c.holds.rests c.holds.holding
        ∙ (ap length (words_on s h c.looks c.view c.looked) ∙ sym (many_words old s rests h))

    pub all_looked : length old.pending.items ≤ n → ((s : Standing) → Rests at old s → HoldsWords s
        → After s (LookedFirst lane n inside)) → WordsLooked at old lane inside
    unfolding WordsLooked
    all_looked many looked s rests h =
        let c = looked s rests h in
        let e = many_still s rests h c in
        let f = many_words lane (moved s c.view) c.holds.rests c.holds.holding in record {
          looks = c.looks;
          view = c.view;
          looked = c.looked;
          holds = (
            so inside (moved s c.view) (subst (λ ws. FirstsSo inside ws (moved s c.view))
                (take_all n (words_pending (moved s c.view)) (omega (arith, many, e, f)))
                c.holds.came),
            c.holds.rests,
            c.holds.holding,
          );
        }
      where
        so : (b : Bool) (t : Standing) → FirstsSo b (words_pending t) t → LookedSo b t
        so true t f = f
        so false t f = record { sizes = f.0; word = f.1.0; among = f.1.1; ends = f.1.2 }
