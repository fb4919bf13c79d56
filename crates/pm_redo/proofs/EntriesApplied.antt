-- Applying the entries of a sealed log is lawful, and each has its effect.
use Rattle.std.proofs.Common.{◌≡◌, ◌≢◌, ⊎_elim, ℕ, suc, ◌+◌, ◌*◌, ◌/◌, ◌<◌, ◌≤◌, Bool, true, false, cond, ◌==◌, nat_lt, List, [], ◌∷◌, ◌++◌, length, map, take, drop, get_or, refl, sym, ap, ◌∙◌, subst, arith, Option, None, Some}
use Rattle.std.specs.Option.{option_map}
use Rattle.std.specs.List.{AllByRecursion}
use Rattle.std.specs.Prelude.{bit_and}
use Rattle.std.specs.Int.{bit_not, w64}
use Rattle.std.proofs.Math.Seq.{drop-cons, get_or-append_seam}
use Rattle.std.proofs.lemmas.Bool.{and_parts, ltb-true, cond-true, cond-false, eqb-false}
use Rattle.std.proofs.lemmas.List.{get_or-map, get_or_append_left, length-append, length-map, length-take-le, drop_all, take_all, take_more}
use Rattle.pm_layout.specs.declared.shape.Shape.{Shape}
use Rattle.pm_layout.specs.Areas.{word_of_generation}
use Rattle.pm_layout.specs.Chunks.{chunks_of, words_of}
use Rattle.pm_record.specs.Redo.{outcome}
use Rattle.pm_record.specs.declared.redo.Op.{Op}
use Rattle.pm_record.specs.declared.redo.Op.TheVariants.{Set, Or, And}
use Rattle.pm_view.specs.Bits.{all_bits}
use Rattle.pm_view.specs.Changes.{Undrained}
use Rattle.pm_view.specs.Claims.{Claim, Knows, Drained, class, known, making, pictured}
use Rattle.pm_view.specs.Entries.{Entry, first_of_two}
use Rattle.pm_view.specs.Log.{Applying, Log, log_stored}
use Rattle.pm_view.specs.Places.{Place, InRun, InHuge, Descr, RootWord}
use Rattle.pm_view.specs.Steps.Step.{Store}
use Rattle.pm_view.specs.View.{View, runs_one}
use Rattle.pm_view.specs.Views.{after, after_all, changed_from, marked_by, was_of}
use Rattle.pm_view.specs.Steps.{Step}
use Rattle.pm_world.specs.Lawful.{Allowed, ChangeFits, StoreFits}
use Rattle.pm_world.specs.Logs.{ends_with}
use Rattle.pm_world.proofs.PlacesAt.{IsAt, is_at}
use Rattle.pm_plan.specs.Notes.{AreNotes, DrainedTo, IsBeyond, Note, Valued, noted}
use Rattle.pm_plan.specs.Plans.{IsPersisted, Plan, Ready, in_turn, persists_all, repeated}
use Rattle.pm_plan.proofs.Going.{Goes, goes_repeated, goes_then}
use Rattle.pm_plan.proofs.Notes.{known_noted, making_same}
use Rattle.pm_redo.specs.Entries.{entry_at, last_made, listed_entry, no_entry}
use Rattle.pm_redo.specs.Plans.{applies, applies_all, applies_each, applies_entry, does}
use Rattle.pm_redo.specs.Stages.{CanApply, IsApplied, IsOfPlace}
use Rattle.pm_redo.proofs.Plans.{at_index, goes_does, goes_persist, step_of}
use Rattle.pm_redo.proofs.LastMade.{first_first, last_more, last_none, made_by, not_made}
use Rattle.pm_plan.proofs.AreaParts.{by_part, part_generation, place_outside}

pub inside_pool : (sh : Shape) (class : ℕ → ℕ) (w : ℕ) (p : Place) → IsAt sh class w p
    → w < words_of sh
inside_pool sh class w (InRun c u) at = let t = and_parts (nat_lt c (chunks_of sh)) (nat_lt u 512)
    at.inside in let a = ltb-true c (chunks_of sh) t.0 in let b = ltb-true u 512 t.1 in let e =
    at.word in omega (arith, a, b, e)
inside_pool sh class w (InHuge c u) at = let t = and_parts (nat_lt c (chunks_of sh)) (nat_lt u 512)
    at.inside in let a = ltb-true c (chunks_of sh) t.0 in let b = ltb-true u 512 t.1 in let e =
    at.word in omega (arith, a, b, e)
inside_pool sh class w (Descr c) at = let a = ltb-true c (chunks_of sh) at.inside in let e =
    at.word in omega (arith, a, e)
inside_pool sh class w RootWord at = let e = at.word in omega (arith, e)

module _ (v : View) (found : ℕ → ℕ) where
  abbrev sh : Shape
  sh = v.fixed.shape

  abbrev one_ : Bool
  one_ = runs_one v

  -- the view with these claims and changes, and these entries to apply yet
  abbrev now : List Claim → List Undrained → List Step → List Entry → View
  now t changes calls todo = record v {
    claims = t;
    changes = changes;
    calls = calls;
    log = record v.log { phase = Applying todo };
  }

  -- these entries have their effect
  record Made (es : List Entry) (t : List Claim) (changes : List Undrained) : Type 0 where
    notes : List Note
    are : t ≡ noted notes v.claims
    each : AreNotes sh v.claims notes
    values : (y : ℕ) → pictured sh t y ≡ first_of_two (last_made found es y)
        (pictured sh v.claims y)
    knowns : (y : ℕ) → last_made found es y ≡ None → known sh one_ t y ≡ known sh one_ v.claims y
    few : length changes ≤ length es

  made_more : (es : List Entry) (t : List Claim) (changes : List Undrained) (e : Entry)
      (c : Undrained) → Made es t changes
      → Made (es ++ e ∷ []) (Knows e.word (outcome e.op e.value (found (length es))) ∷ t)
      (c ∷ changes)
  made_more es t changes e c m = record {
    notes = Valued e.word x ∷ m.notes;
    are = ap (λ claims. Knows e.word x ∷ claims) m.are;
    each = (tt, m.each);
    values = λ y. go y (e.word == y) refl
        ∙ (ap (λ o. first_of_two (made_by (found (length es)) e y) o) (m.values y)
        ∙ (sym (first_first (made_by (found (length es)) e y) (last_made found es y)
        (pictured sh v.claims y))
        ∙ ap (λ o. first_of_two o (pictured sh v.claims y)) (sym (last_more found es e y))));
    knowns = λ y none. (
        let n = not_made x (e.word == y) (last_made found es y) (sym (last_more found es e y)
        ∙ none) in
        known_noted sh t one_ (Valued e.word x) tt y (eqb-false e.word y n.0) ∙ m.knowns y n.1);
    few = (let n = length-append es (e ∷ []) in let f = m.few in omega (arith, n, f));
  }
    where
      x : ℕ
      x = outcome e.op e.value (found (length es))

      go : (y : ℕ) (b : Bool) → (e.word == y) ≡ b → cond (e.word == y) (Some x)
          (pictured sh t y) ≡ first_of_two (made_by (found (length es)) e y) (pictured sh t y)
      go y true q = cond-true (e.word == y) (Some x) (pictured sh t y) q
          ∙ ap (λ o. first_of_two o (pictured sh t y))
          (sym (cond-true (e.word == y) (Some x) None q))
      go y false q = cond-false (e.word == y) (Some x) (pictured sh t y) q
          ∙ ap (λ o. first_of_two o (pictured sh t y))
          (sym (cond-false (e.word == y) (Some x) None q))

  -- an unflushed change of bits of a word
  abbrev of_bits : ℕ → ℕ → Option ℕ → Undrained
  of_bits w mask old = record { word = w; mask = mask; old = old; flushed = false }

  -- some entries are applied, and these are left
  abbrev HasApplied : List Entry → List Entry → View → Type 0
  HasApplied es todo u = (u ≡ now u.claims u.changes u.calls todo) × Made es u.claims u.changes

  abbrev Takes : List Entry → List Entry → Entry → View → Type 0
  Takes es todo e u = Allowed u (step_of e.op e.word e.value (found (length es)))
      × HasApplied (es ++ e ∷ []) todo (after u (step_of e.op e.word e.value (found (length es))))

  -- an entry of a place is applied
  module _ (low : v.fixed.lane < sh.lanes) (es todo : List Entry) (fit : length es < 64) where
    entry_steps : (w : ℕ) (place : Option Place) (op : Op) (x : ℕ)
        → IsOfPlace v (record { word = w; place = place; op = op; value = x })
        → (t : List Claim) (changes : List Undrained) (calls : List Step) → Made es t changes
        → Takes es todo (record { word = w; place = place; op = op; value = x })
        (now t changes calls (record { word = w; place = place; op = op; value = x } ∷ todo))
    entry_steps w place Set x is t changes calls m = (
      record {
        inside = inside_pool sh (class v.claims) w is.place
            (is_at sh (class v.claims) w is.place is.at);
        room = (let f = m.few in omega (arith, f, fit));
        small = is.small;
        fits = by_part sh v.fixed.lane w (class v.claims) low is.place is.at
            (λ q. StoreFits (now t changes calls (e ∷ todo)) w x (Applying (e ∷ todo)) q)
            (λ root. (refl, refl, refl)) (λ c. (refl, refl, refl)) (λ c u. (refl, refl, refl));
      },
      by_part sh v.fixed.lane w (class v.claims) low is.place is.at
          (λ q. HasApplied (es ++ e ∷ []) todo (changed_from (Store w x) (now t changes calls (e ∷ todo)) w
          all_bits (was_of (Applying (e ∷ todo)) q (pictured sh t w)) x
          (marked_by (Applying (e ∷ todo)) q x t) (log_stored sh (class t) (Applying (e ∷ todo))
          q x (record v.log { phase = Applying (e ∷ todo) }))))
          (λ root. (
            refl,
            made_more es t changes e
                (of_bits w all_bits (option_map (λ old. bit_and old all_bits) (pictured sh t w))) m,
          ))
          (λ c. (refl, made_more es t changes e (of_bits w all_bits None) m))
          (λ c u. (
            refl,
            made_more es t changes e
                (of_bits w all_bits (option_map (λ old. bit_and old all_bits) (pictured sh t w))) m,
          )),
    )
      where
        e : Entry
        e = record { word = w; place = place; op = Set; value = x }
    entry_steps w place Or x is t changes calls m = (
      record {
        inside = inside_pool sh (class v.claims) w is.place
            (is_at sh (class v.claims) w is.place is.at);
        room = (let f = m.few in omega (arith, f, fit));
        small = is.small;
        fits = by_part sh v.fixed.lane w (class v.claims) low is.place is.at
            (λ q. ChangeFits (now t changes calls (e ∷ todo)) Or w x (Applying (e ∷ todo)) q)
            (λ root. absurd (let q = is.root root in cc)) (λ c. (refl, refl, refl))
            (λ c u. (refl, refl, refl));
      },
      (refl, made_more es t changes e (of_bits w x (Some (bit_and (found (length es)) x))) m),
    )
      where
        e : Entry
        e = record { word = w; place = place; op = Or; value = x }
    entry_steps w place And x is t changes calls m = (
      record {
        inside = inside_pool sh (class v.claims) w is.place
            (is_at sh (class v.claims) w is.place is.at);
        room = (let f = m.few in omega (arith, f, fit));
        small = is.small;
        fits = by_part sh v.fixed.lane w (class v.claims) low is.place is.at
            (λ q. ChangeFits (now t changes calls (e ∷ todo)) And w x (Applying (e ∷ todo)) q)
            (λ root. absurd (let q = is.root root in cc)) (λ c. (refl, refl, refl))
            (λ c u. (refl, refl, refl));
      },
      (
        refl,
        made_more es t changes e
            (of_bits w (bit_not w64 x) (Some (bit_and (found (length es)) (bit_not w64 x)))) m,
      ),
    )
      where
        e : Entry
        e = record { word = w; place = place; op = And; value = x }

    entry_goes : (e : Entry) → IsOfPlace v e → Goes (HasApplied es (e ∷ todo))
        (does e.op e.word e.value (found (length es))) (HasApplied (es ++ e ∷ []) todo)
    entry_goes e is = goes_does (HasApplied es (e ∷ todo)) (HasApplied (es ++ e ∷ []) todo) e.op
        e.word
        e.value (found (length es)) (λ u p. let f = p.1.few in omega (arith, f, fit))
        (λ u p. subst (Takes es todo e) (sym p.0) (entry_steps e.word e.place e.op e.value is
        u.claims u.changes u.calls p.1))

module _ (v : View) (found : ℕ → ℕ) (can : CanApply v) where
  abbrev shape : Shape
  shape = v.fixed.shape

  abbrev front : List Entry
  front = can.log_.front

  abbrev end_ : Entry
  end_ = ends_with shape v.fixed.lane v.log.generation

  abbrev entries : List Entry
  entries = front ++ end_ ∷ []

  abbrev none_ : Entry
  none_ = record { word = 0; place = None; op = Set; value = 0 }

  many : length entries ≡ length front + 1
  many = length-append front (end_ ∷ [])

  few_ : length front < 64
  few_ = let n = many in let f = can.log_.few in let e = ap length can.log_.are in
      omega (arith, n, f, e)

  -- so many of the entries are applied
  abbrev Upto : ℕ → View → Type 0
  Upto k = HasApplied v found (take k front) (drop k front ++ end_ ∷ [])

  next : (k : ℕ) → k < length front
      → Goes (Upto k) (applies_entry (entry_at (map listed_entry entries) k) (found k))
      (Upto (k + 1))
  unfolding applies_entry
  next k low =
      let e : Entry = get_or front k none_ in
      let listed : entry_at (map listed_entry entries) k ≡ listed_entry e = get_or-map listed_entry
      entries k none_ no_entry (let n = many in omega (arith, n, low))
      ∙ ap listed_entry (get_or_append_left front (end_ ∷ []) none_ k low) in
      let long : length (take k front) ≡ k = length-take-le k front (omega (arith, low)) in
      let goes = entry_goes v found can.log_.lane (take k front) (drop (suc k) front ++ end_ ∷ [])
      (let f = few_ in omega (arith, long, low, f)) e
      (at_index (IsOfPlace v) front none_ k can.log_.each low) in
      subst (λ q. Goes (Upto k) (does q.op (q.place / 8) q.value (found k)) (Upto (k + 1)))
      (sym listed)
      (subst (λ w. Goes (Upto k) (does e.op w e.value (found k)) (Upto (k + 1)))
      (let q : e.word ≡ 8 * e.word / 8 = omega arith in q)
      (subst (λ n. Goes (Upto k) (does e.op e.word e.value (found n)) (Upto (k + 1))) long
      (subst (λ todo. Goes (HasApplied v found (take k front) (todo ++ end_ ∷ []))
      (does e.op e.word e.value (found (length (take k front)))) (Upto (k + 1)))
      (sym (drop-cons front k none_ low))
      (subst (λ es. Goes (HasApplied v found (take k front) (e ∷ drop (suc k) front ++ end_ ∷ []))
      (does e.op e.word e.value (found (length (take k front))))
      (HasApplied v found es (drop (k + 1) front ++ end_ ∷ [])))
      (sym (take_more front k none_ low))
      (subst (λ n. Goes (HasApplied v found (take k front) (e ∷ drop (suc k) front ++ end_ ∷ []))
      (does e.op e.word e.value (found (length (take k front))))
      (HasApplied v found (take k front ++ e ∷ []) (drop n front ++ end_ ∷ [])))
      (let q : suc k ≡ k + 1 = omega arith in q)
      goes)))))

  -- ---- the last entry ends the generation
  abbrev bumped_ : Log
  bumped_ = record v.log { phase = Applying []; bumped = true }

  abbrev final : List Claim → List Undrained → List Step → View
  final t changes calls = record v { claims = t; changes = changes; calls = calls; log = bumped_ }

  abbrev AllApplied : View → Type 0
  AllApplied u = (u ≡ final u.claims u.changes u.calls) × Made v found entries u.claims u.changes

  abbrev generation : ℕ
  generation = word_of_generation shape v.fixed.lane

  elsewhere : (es : List Entry) → AllByRecursion (IsOfPlace v) es
      → AllByRecursion (λ (e : Entry). e.word ≢ generation) es
  elsewhere [] all = tt
  elsewhere (e ∷ es) all = (
    (λ same. ⊎_elim (λ (root : e.word ≡ 64). let r = root in omega (arith, r, same))
        (λ (far : IsBeyond shape e.word). let low = can.log_.lane in omega (arith, far, low, same))
        (place_outside shape v.fixed.lane e.word (class v.claims) all.0.place all.0.at)),
    elsewhere es all.1,
  )

  unmade : last_made found front generation ≡ None
  unmade = last_none found front generation (elsewhere front can.log_.each)

  abbrev Ends : View → Type 0
  Ends u = Allowed u (Store generation (v.log.generation + 1))
      × AllApplied (after u (Store generation (v.log.generation + 1)))

  end_steps : (t : List Claim) (changes : List Undrained) (calls : List Step) → Made v found front t changes
      → Ends (now v found t changes calls (end_ ∷ []))
  end_steps t changes calls m = (
    record {
      inside = (let low = can.log_.lane in omega (arith, low));
      room = (let f = m.few in let l = few_ in omega (arith, f, l));
      small = (let b = can.log_.below in omega (arith, b));
      fits = subst (λ q. StoreFits (now v found t changes calls (end_ ∷ [])) generation
          (v.log.generation + 1) (Applying (end_ ∷ [])) q)
          (sym (part_generation shape v.fixed.lane)) (
            (refl, refl, refl),
            m.values generation
                ∙ (ap (λ o. first_of_two o (pictured shape v.claims generation)) unmade
                ∙ can.known),
          );
    },
    subst (λ q. AllApplied (changed_from (Store generation (v.log.generation + 1)) (now v found t changes calls (end_ ∷ [])) generation
        all_bits (was_of (Applying (end_ ∷ [])) q (pictured shape t generation))
        (v.log.generation + 1) (marked_by (Applying (end_ ∷ [])) q (v.log.generation + 1) t)
        (log_stored shape (class t) (Applying (end_ ∷ [])) q (v.log.generation + 1)
        (record v.log { phase = Applying (end_ ∷ []) }))))
        (sym (part_generation shape v.fixed.lane)) (
          refl,
          made_more v found front t changes end_
              (of_bits v found generation all_bits (option_map (λ old. bit_and old all_bits)
              (pictured shape t generation))) m,
        ),
  )

  last : Goes (Upto (length front))
      (applies_entry (entry_at (map listed_entry entries) (length front)) (found (length front)))
      AllApplied
  unfolding applies_entry
  last =
      let listed : entry_at (map listed_entry entries) (length front) ≡ listed_entry end_ =
      get_or-map listed_entry entries (length front) none_ no_entry
      (let n = many in omega (arith, n))
      ∙ ap listed_entry (get_or-append_seam front end_ [] none_) in
      let goes : Goes (HasApplied v found front (end_ ∷ []))
      (does Set generation (v.log.generation + 1) (found (length front))) AllApplied
      = goes_does (HasApplied v found front (end_ ∷ [])) AllApplied Set generation
      (v.log.generation + 1) (found (length front)) (λ u p. let f = p.1.few in let l = few_ in
      omega (arith, f, l))
      (λ u p. subst Ends (sym p.0) (end_steps u.claims u.changes u.calls p.1)) in
      subst (λ q. Goes (Upto (length front))
      (does q.op (q.place / 8) q.value (found (length front))) AllApplied) (sym listed)
      (subst (λ w. Goes (Upto (length front))
      (does Set w (v.log.generation + 1) (found (length front))) AllApplied)
      (let q : generation ≡ 8 * generation / 8 = omega arith in q)
      (subst (λ es. Goes (HasApplied v found es (drop (length front) front ++ end_ ∷ []))
      (does Set generation (v.log.generation + 1) (found (length front))) AllApplied)
      (sym (take_all (length front) front (omega arith)))
      (subst (λ todo. Goes (HasApplied v found front (todo ++ end_ ∷ []))
      (does Set generation (v.log.generation + 1) (found (length front))) AllApplied)
      (sym (drop_all (length front) front (omega arith))) goes)))

  each_goes : Goes (Upto 0) (applies_each (map listed_entry entries) found) AllApplied
  unfolding applies_each repeated
  each_goes =
      let plans : ℕ → Plan = λ i. applies_entry (entry_at (map listed_entry entries) i) (found i) in
      let long : suc (length front) ≡ length (map listed_entry entries) =
      (let n = many in let m = length-map entries listed_entry in omega (arith, n, m)) in
      subst (λ n. Goes (Upto 0) (repeated plans n) AllApplied) long
      (goes_then (Upto 0) (Upto (length front)) AllApplied (repeated plans (length front))
      (plans (length front)) (goes_repeated Upto plans (length front) next) last)

  -- ---- and that is made persistent
  abbrev Ended : View → Type 0
  Ended u = (u ≡ final u.claims [] u.calls) × Made v found entries u.claims []

  no_making : (t : List Claim) (notes : List Note) → t ≡ noted notes v.claims
      → AreNotes shape v.claims notes → (c : ℕ) → making shape t c ≡ false
  no_making t notes are each = subst (λ claims. (c : ℕ) → making shape claims c ≡ false) (sym are)
      (making_same shape notes v.claims each can.unmaking)

  drained_made : (t : List Claim) (changes : List Undrained) → Made v found entries t changes
      → Made v found entries (Drained [] ∷ t) []
  drained_made t changes m = record {
    notes = DrainedTo [] ∷ m.notes;
    are = ap (λ claims. Drained [] ∷ claims) m.are;
    each = (
      subst (λ claims. (c : ℕ) → making shape claims c ≡ false) m.are
          (no_making t m.notes m.are m.each),
      m.each,
    );
    values = m.values;
    knowns = λ y none. known_noted shape t (runs_one v) (DrainedTo [])
        (no_making t m.notes m.are m.each) y tt ∙ m.knowns y none;
    few = omega arith;
  }

  ended : (t : List Claim) (changes : List Undrained) (calls : List Step) (u : View)
      → Made v found entries t changes → IsPersisted (final t changes calls) u → Ended u
  ended t [] calls u m is = let claims : u.claims ≡ t = ap (λ (y : View). y.claims) is in (
    is ∙ ap (λ c. final c [] u.calls) (sym claims),
    subst (λ c. Made v found entries c [])
        (sym claims) m,
  )
  ended t (c ∷ changes) calls u m is = let claims : u.claims ≡ Drained []
      ∷ t = ap (λ (y : View). y.claims) is in (
        is ∙ ap (λ d. final d [] u.calls) (sym claims),
        subst (λ d. Made v found entries d []) (sym claims) (drained_made t (c ∷ changes) m),
      )

  starts : Upto 0 v
  starts = (
    ap (λ (l : Log). record v { log = l })
        (ap (λ ph. record v.log { phase = ph }) (can.applying ∙ ap Applying can.log_.are)),
    record {
      notes = [];
      are = refl;
      each = tt;
      values = λ y. refl;
      knowns = λ y none. refl;
      few = subst (λ (changes : List Undrained). length changes ≤ 0) (sym can.drained)
          (omega arith);
    },
  )

  is_applied : (u : View) → Ended u → IsApplied v found u
  is_applied u p = record {
    same = p.0;
    noted = record { notes = p.1.notes; are = p.1.are; each = p.1.each };
    made = λ y. ap (λ (z : View). pictured z.fixed.shape u.claims y) p.0
        ∙ (p.1.values y ∙ ap (λ es. first_of_two (last_made found es y) (pictured shape v.claims y))
        (sym can.log_.are));
    known = λ y none. ap (λ (z : View). known z.fixed.shape (runs_one z) u.claims y) p.0
        ∙ p.1.knowns y (ap (λ es. last_made found es y) (sym can.log_.are) ∙ none);
  }

  -- APPLYING IS LAWFUL
  pub apply_lawful : Ready v (applies found v) × IsApplied v found (after_all v (applies found v))
  unfolding applies applies_all
  apply_lawful =
      let goes : Goes (Upto 0) (in_turn (applies_each (map listed_entry entries) found)
      persists_all) Ended
      = goes_then (Upto 0) AllApplied Ended (applies_each (map listed_entry entries) found)
      persists_all each_goes
      (goes_persist AllApplied Ended (λ y u p is. ended y.claims y.changes y.calls u p.1
      (subst (λ z. IsPersisted z u) p.0 is))) in
      let t = subst
      (λ es. Goes (Upto 0) (in_turn (applies_each (map listed_entry es) found) persists_all)
      Ended) (sym can.log_.are) goes v starts in (
        t.0,
        is_applied
            (after_all v (in_turn (applies_each (map listed_entry v.log.entries) found) persists_all
            v)) t.1,
      )
