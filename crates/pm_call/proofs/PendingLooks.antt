-- THE PENDING WORDS OF A LANE THAT HOLDS THEIR OBJECTS are looked at: the size of a word's object,
-- and the word where it ends within the object.
use Rattle.std.proofs.Common.{◌≡◌, ℕ, ◌+◌, ◌*◌, ◌-◌, ◌/◌, ◌%◌, ◌<◌, ◌≤◌, Bool, true, false, not, ◌==◌, ◌&&◌, ◌||◌, nat_le, List, [], ◌∷◌, ◌++◌, map, refl, sym, ap, ◌∙◌, subst, arith, eq-eqb, Some}
use Rattle.std.specs.Prelude.{filter}
use Rattle.std.specs.List.{AllByRecursion}
use Rattle.std.proofs.lemmas.Bool.{and_from, and_parts, both_ways, eqb-true, leb-true, or_left, or_right}
use Rattle.pm_layout.specs.Chunks.{words_of}
use Rattle.pm_layout.specs.declared.shape.Shape.{Shape}
use Rattle.pm_model.specs.Pending.{Pending, SetWord, want_to_write, wants_pending}
use Rattle.pm_objects.specs.declared.calls.Want.{Want}
use Rattle.pm_view.specs.Places.{word_of}
use Rattle.pm_view.specs.Steps.Step.{Load}
use Rattle.pm_view.specs.View.{Told, View}
use Rattle.pm_view.specs.Views.{after, value_in}
use Rattle.pm_world.specs.InWorld.{InWorld, IsSound}
use Rattle.pm_world.specs.LaneFields.{Standing, moved}
use Rattle.pm_crash.specs.Calls.{pending_after, pending_of}
use Rattle.pm_crash.specs.Looked.{size_seen, word_place}
use Rattle.pm_crash.specs.OpenRuns.{after_told}
use Rattle.pm_crash.specs.Sim.{lists_of}
use Rattle.pm_lock.specs.Objects.{is_placed}
use Rattle.pm_lock.specs.Wants.{has_unplaced}
use Rattle.pm_plan.proofs.AreaParts.{in_pool}
use Rattle.pm_model.specs.Transaction.{all_locked, is_locked}
use Rattle.pm_call.specs.At.{At, MaySet}
use Rattle.pm_call.specs.Held.{AreHeld, HasObject, IsObjectWord, Looks, LooksAt, has_line, is_in_locks, line_of}
use Rattle.pm_call.specs.Publications.{HoldsWords, wants_to_set}
use Rattle.pm_call.specs.Publishing.{words_pending}
use Rattle.pm_call.specs.Waiting.{IsWord, pending_now}
use Rattle.pm_call.proofs.Calls.{looks_more}
use Rattle.pm_call.proofs.EntryLooks.{MayLook}
use Rattle.pm_call.proofs.HeldWords.{as_begun, begin_told, begun_at, calling, look_called, none_told, place_called, view_is, word_called}
use Rattle.pm_call.proofs.KnownObjects.{held_object, size_word, word_number}
use Rattle.pm_call.proofs.LockLists.{all_locked_is, wants_off}
use Rattle.pm_call.proofs.Looking.{looked_value, looked_values}
use Rattle.pm_call.proofs.LooksInWorlds.{look_at}
use Rattle.pm_call.proofs.Noting.{all_map, held_told, sound_told}
use Rattle.pm_call.proofs.ObjectWords.{object_place}
use Rattle.pm_call.proofs.SetEntries.{IsSetAt, set_at}

-- ---- lists

or_false : (a b : Bool) → (a || b) ≡ false → (a ≡ false) × (b ≡ false)
or_false true b e = absurd (both_ways true e refl)
or_false false b e = (refl, e)

not_false : (b : Bool) → not b ≡ false → b ≡ true
not_false true e = refl
not_false false e = absurd (both_ways true e refl)

abbrev to_write : SetWord → Want
to_write a = want_to_write a.id

-- the object of each word is wanted
each_wanted : (words more : List SetWord)
    → ((off : ℕ) → wants_off (map to_write more) off true ≡ true
    → wants_off (map to_write words) off true ≡ true)
    → AllByRecursion (λ (a : SetWord). wants_off (map to_write words) a.id.off true ≡ true) more
each_wanted words [] so = tt
each_wanted words (a ∷ more) so = (
  so a.id.off (or_left (a.id.off == a.id.off && true) (wants_off (map to_write more) a.id.off true)
      (and_from (a.id.off == a.id.off) true (eq-eqb a.id.off a.id.off refl) refl)),
  each_wanted words more (λ off e. so off
      (or_right (a.id.off == off && true) (wants_off (map to_write more) off true) e)),
)

each_placed : (sh : Shape) (pool : ℕ) (words : List SetWord)
    → has_unplaced sh pool (map to_write words) ≡ false
    → AllByRecursion (λ (a : SetWord). a.id.pool ≡ pool) words
each_placed sh pool [] e = tt
each_placed sh pool (a ∷ words) e =
    let p = or_false (not (is_placed sh pool a.id)) (has_unplaced sh pool (map to_write words)) e in (
      eqb-true a.id.pool pool (and_parts (a.id.pool == pool) _
          (not_false (is_placed sh pool a.id) p.0)).0,
      each_placed sh pool words p.1,
    )

all_of : (wants : List Want) → filter (λ (w : Want). true) wants ≡ wants
all_of [] = refl
all_of (w ∷ wants) = ap (λ ws. w ∷ ws) (all_of wants)

-- ---- WHAT IS PENDING, whatever was told of locks

pub now_begun : (wants : List Want) (v : View)
    → pending_now (calling (begin_told wants) v) ≡ pending_of v.entries
unfolding pending_after
now_begun wants v = refl

pub now_open : (v : View) → v.call ≡ [] → pending_now v ≡ pending_of v.entries
unfolding pending_after
now_open v none = ap (λ (c : List Told). pending_after c (pending_of v.entries)) none

locks_begun : (wants : List Want) (v : View)
    → (lists_of (calling (begin_told wants) v)).locks ≡ all_locked wants []
unfolding after_told
locks_begun wants v = ap (λ ws. all_locked ws []) (all_of wants)

-- ---- ITS OBJECT IS HELD

pub record IsHeldWord (t : Standing) (a : SetWord) : Type 0 where
  pub pool : a.id.pool ≡ t.view.fixed.pool
  pub locked : is_in_locks t.locks a.id.off true ≡ true
  pub word : IsWord a

module _ (t : Standing) (h : HoldsWords t) where
  abbrev wants : List Want
  wants = wants_to_set h.before

  at : At (as_begun (wants_to_set h.before) t)
  at = begun_at t h

  now : pending_now t.view ≡ pending_of t.view.entries
  now = now_open t.view (none_told t h)

  -- what is pending is words alone
  pub no_frees : (pending_of t.view.entries).frees ≡ []
  no_frees = ap (λ (p : Pending). p.frees) (sym (now_begun wants t.view)) ∙ at.pending.no_frees

  pub none_late : (pending_of t.view.entries).late ≡ false
  none_late = ap (λ (p : Pending). p.late) (sym (now_begun wants t.view)) ∙ at.pending.on_time

  pub none_reserved : (pending_of t.view.entries).reserved ≡ []
  none_reserved =
      ap (λ (p : Pending). p.reserved) (sym (now_begun wants t.view)) ∙ at.pending.none_reserved

  pub words_are : words_pending t ≡ (pending_of t.view.entries).sets
  words_are = ap (λ (p : Pending). p.sets) now

  pub begun_words : words_pending (as_begun (wants_to_set h.before) t) ≡ words_pending t
  begun_words = ap (λ (p : Pending). p.sets) (now_begun wants t.view ∙ sym now)

  now_before : pending_now h.before.view ≡ pending_now t.view
  now_before = ap (λ (y : View). pending_now y) (sym (view_is t h))

  pub wants_are : wants_to_set h.before ≡ map to_write (words_pending t)
  wants_are = (λ i. map want_to_write ((now_before ∙ now) i).frees
      ++ map to_write ((now_before ∙ now) i).sets)
      ∙ ((λ i. map want_to_write (no_frees i) ++ map to_write (pending_of t.view.entries).sets)
      ∙ ap (λ ws. map to_write ws) (sym words_are))

  locked_so : (off : ℕ) → wants_off wants off true ≡ true → is_in_locks t.locks off true ≡ true
  locked_so off e = sym (at.lists.locks off true)
      ∙ (ap (λ ls. is_locked ls off true) (locks_begun wants t.view)
      ∙ (all_locked_is wants [] off true ∙ e))

  all_locked_so : AllByRecursion (λ (a : SetWord). is_in_locks t.locks a.id.off true ≡ true)
      (words_pending t)
  all_locked_so = all_map
      (λ (a : SetWord). wants_off (map to_write (words_pending t)) a.id.off true ≡ true)
      (λ (a : SetWord). is_in_locks t.locks a.id.off true ≡ true) (words_pending t)
      (λ a e. locked_so a.id.off (ap (λ ws. wants_off ws a.id.off true) wants_are ∙ e))
      (each_wanted (words_pending t) (words_pending t) (λ off e. e))

  pub placed_so : has_unplaced t.view.fixed.shape t.view.fixed.pool (map to_write (words_pending t))
      ≡ false
  placed_so = (λ i. has_unplaced (view_is t h i).fixed.shape (view_is t h i).fixed.pool
      (sym wants_are i)) ∙ h.placed

  pub placed_now : has_unplaced t.view.fixed.shape t.view.fixed.pool
      (wants_pending (pending_of t.view.entries)) ≡ false
  placed_now = (λ i. has_unplaced (view_is t h i).fixed.shape (view_is t h i).fixed.pool
      (wants_pending ((sym now ∙ sym now_before) i))) ∙ h.placed

  -- THE LANE HOLDS EACH
  pub held_words : AllByRecursion (IsHeldWord t) (words_pending t)
  held_words = each (words_pending t)
      (each_placed t.view.fixed.shape t.view.fixed.pool (words_pending t) placed_so)
      all_locked_so
      (subst (AllByRecursion IsWord) begun_words at.pending.words)
    where
      each : (ws : List SetWord)
          → AllByRecursion (λ (a : SetWord). a.id.pool ≡ t.view.fixed.pool) ws
          → AllByRecursion (λ (a : SetWord). is_in_locks t.locks a.id.off true ≡ true) ws
          → AllByRecursion IsWord ws → AllByRecursion (IsHeldWord t) ws
      each [] p l w = tt
      each (a ∷ ws) p l w =
          (record { pool = p.0; locked = l.0; word = w.0 }, each ws p.1 l.1 w.1)

  -- ---- a look at a word of an object is as one of a lane at work

  pub sound_now : IsSound t.view
  sound_now = sound_told (calling (begin_told wants) t.view) t.view.call t.view.actions
      t.view.published at.sound

  pub held_now : AreHeld t.view t.locks
  held_now = held_told (calling (begin_told wants) t.view) t.view.call t.view.actions
      t.view.published t.locks at.held

  -- so it may be made
  module _ (w x : ℕ) (m : MayLook t.view w) (world : InWorld t.view w x) where
    abbrev pub u : View
    u = after t.view (Load w x)

    abbrev pub look : LooksAt t.view (after t.view (Load w x))
    look = look_at t.view m.block m.index w x sound_now m.word m.number world

    pub holds_on : HoldsWords (moved t (after t.view (Load w x)))
    unfolding Looks
    holds_on = record {
      before = h.before;
      opened = h.opened;
      placed = h.placed;
      few = h.few;
      locked = h.locked;
      takes = h.takes;
      looks = h.looks + 1;
      looked = looks_more h.looks 1 h.locked t.view u h.looked (u, look, refl);
      since = ap (λ (z : Standing). moved z u) h.since;
    }

    pub value_then : value_in (after t.view (Load w x)) w ≡ Some x
    value_then = ap (value_in u) (sym m.number ∙ ap (word_of t.view.fixed.shape)
        (sym (place_called (begin_told wants) t.view m.block m.index)))
        ∙ looked_value (as_begun wants t) 1 at (calling (begin_told wants) u)
        (look_called (begin_told wants) t.view u look)

    pub values_then : (y z : ℕ) → value_in t.view y ≡ Some z
        → value_in (after t.view (Load w x)) y ≡ Some z
    values_then y z e = looked_values (as_begun wants t) 1 at (calling (begin_told wants) u)
        (look_called (begin_told wants) t.view u look) y z e

  -- ---- THE SIZE of a word's object, and the word

  module _ (a : SetWord) (held : IsHeldWord t a) where
    found : (has_line a.id.off ≡ true) × HasObject t.view (line_of a.id.off)
    found = held_object t.view t.locks held_now a.id.off true held.locked

    pub object : HasObject t.view (line_of a.id.off)
    object = found.1

    own : IsObjectWord t.view object.block 1
    own = size_word t.view sound_now (line_of a.id.off) object

    pub line : has_line a.id.off ≡ true
    line = found.0

    size_at : word_of t.view.fixed.shape (word_place t.view object.block 1) ≡ a.id.off / 8 - 7
    size_at =
        let l = and_parts (a.id.off % 64 == 0) (nat_le 128 a.id.off) line in
        let even = eqb-true (a.id.off % 64) 0 l.0 in
        let high = leb-true 128 a.id.off l.1 in
        word_number t.view sound_now object.block 1 own
        ∙ (ap (λ n. 8 * n + 1) object.at ∙ omega (arith, even, high))

    pub may_see_size : MayLook t.view (a.id.off / 8 - 7)
    may_see_size = record {
      block = object.block;
      index = 1;
      word = own;
      number = size_at;
      inside =
          let p = object_place t.view sound_now object.block 1 own in
          subst (λ n. n < words_of t.view.fixed.shape) size_at
          (in_pool t.view.fixed.shape (word_place t.view object.block 1) p.data_ p.there);
    }

    module _ (size : ℕ) (sized : size_seen t.view a.id.off ≡ Some size) (inside : a.off + 8 ≤ size)
      where
        pub may_set : MaySet (as_begun (wants_to_set h.before) t) a
        may_set = record {
          locked = held.locked;
          aligned = held.word.0;
          size = size;
          sized = sized;
          inside = inside;
          small = held.word.1;
        }

        set : IsSetAt (calling (begin_told wants) t.view) a
        set = set_at (as_begun wants t) 1 at a may_set

        pub may_see_word : MayLook t.view ((a.id.off + a.off) / 8)
        may_see_word = record {
          block = set.block;
          index = 8 + a.off / 8;
          word = word_called t.view.call (calling (begin_told wants) t.view) set.block (8 + a.off / 8)
              set.word;
          number = number;
          inside =
              let p = object_place (calling (begin_told wants) t.view) at.sound set.block
              (8 + a.off / 8) set.word in
              subst (λ n. n < words_of t.view.fixed.shape) set.number
              (in_pool t.view.fixed.shape (word_place (calling (begin_told wants) t.view) set.block
              (8 + a.off / 8)) p.data_ p.there);
        }
          where
            number : word_of t.view.fixed.shape (word_place t.view set.block (8 + a.off / 8))
                ≡ (a.id.off + a.off) / 8
            number = ap (word_of t.view.fixed.shape)
                (sym (place_called (begin_told wants) t.view set.block (8 + a.off / 8)))
                ∙ set.number
