-- An entry's two words are stored in the next pair of a lane's log.
use Rattle.std.proofs.Common.{◌≡◌, ◌≢◌, ⊎_elim, inl, inr, IsTrue, ℕ, zero, suc, ◌+◌, ◌*◌, ◌/◌, ◌%◌, ◌^◌, ◌<◌, true, false, ◌==◌, List, [], ◌∷◌, ◌++◌, length, refl, sym, ap, ◌∙◌, subst, arith, Option, None, Some, ne_eqb}
use Rattle.std.specs.Prelude.{IfSome, IsSomeAnd, unwrap_or}
use Rattle.std.proofs.lemmas.Bool.{both_ways, cond-false}
use Rattle.pm_layout.specs.declared.shape.Shape.{Shape}
use Rattle.pm_layout.specs.Areas.{word_of_entry}
use Rattle.pm_record.specs.Redo.{op_code, op_of}
use Rattle.pm_record.specs.declared.redo.Op.{Op}
use Rattle.pm_record.specs.declared.redo.Op.TheVariants.{Set, Or, And}
use Rattle.pm_record.specs.declared.redo.Redo.{Redo}
use Rattle.pm_view.specs.Bits.{all_bits}
use Rattle.pm_view.specs.Changes.{Undrained}
use Rattle.pm_view.specs.Claims.{Claim, Knows, Drained, class, here, locked, known, making, mine, pictured, span}
use Rattle.pm_view.specs.Entries.{Entry}
use Rattle.pm_view.specs.Log.{Open, entered, log_stored, place_at}
use Rattle.pm_view.specs.Parts.{is_entry_word}
use Rattle.pm_view.specs.Counts.{HasRoom}
use Rattle.pm_view.specs.Places.{Place, InRun, InHuge, Descr, RootWord, Block, Small, Big}
use Rattle.pm_view.specs.Steps.Step.{Store}
use Rattle.pm_view.specs.View.{View, runs_one}
use Rattle.pm_view.specs.Views.{after, changed_from, marked_by, was_of}
use Rattle.pm_view.specs.Steps.{Step}
use Rattle.pm_world.specs.Lawful.{Allowed, EntersAt, EntersWord, HoldsRoot, IsOwnData, MayChangeAt, block_in, StoreFits, place_in}
use Rattle.pm_world.specs.Logs.{EntryOf}
use Rattle.pm_plan.specs.Notes.{AreNotes, DrainedTo, Note, Valued, noted}
use Rattle.pm_plan.specs.Plans.{IsPersisted, in_turn, nothing, repeated, stores, stores_from}
use Rattle.pm_plan.proofs.Going.{Goes, goes_nothing, goes_stores, goes_then}
use Rattle.pm_plan.proofs.Notes.{known_noted, making_same, mine_noted}
use Rattle.pm_redo.specs.Entries.{logged_entry}
use Rattle.pm_redo.specs.Plans.{writes_pair}
use Rattle.pm_plan.proofs.AreaParts.{entry_word, part_entry}

-- the pair of an entry spells it
pub entered_back : (sh : Shape) (cl : ℕ → ℕ) (place : ℕ) (op : Op) (value : ℕ) → place % 8 ≡ 0
    → entered sh cl (place + op_code op) value ≡ record {
      word = place / 8;
      place = place_at sh cl (place / 8);
      op = op;
      value = value;
    }
entered_back sh cl place op value aligned = go op
  where
    with_word : Op → ℕ → Entry
    with_word op w = record { word = w; place = place_at sh cl w; op = op; value = value }

    by : (op : Op) (code : ℕ) → code < 8 → unwrap_or (op_of code) Set ≡ op
        → entered sh cl (place + code) value ≡ with_word op (place / 8)
    by op code small is =
        ap (with_word (unwrap_or (op_of ((place + code) % 8)) Set))
        (let e : (place + code) / 8 ≡ place / 8 = omega (arith, aligned, small) in e)
        ∙ (ap (λ n. with_word (unwrap_or (op_of n) Set) (place / 8))
        (let e : (place + code) % 8 ≡ code = omega (arith, aligned, small) in e)
        ∙ ap (λ o. with_word o (place / 8)) is)

    go : (op : Op) → entered sh cl (place + op_code op) value ≡ with_word op (place / 8)
    go Set = by Set 0 (omega arith) refl
    go Or = by Or 1 (omega arith) refl
    go And = by And 2 (omega arith) refl

pub code_low : (op : Op) → op_code op < 8
code_low Set = omega arith
code_low Or = omega arith
code_low And = omega arith

-- an entry that may be stored: of a place, or of the lane's generation
pub record CanPut (v : View) (e : Redo) : Type 0 where
  pub may : EntersWord v (e.place / 8) e.op e.value (place_in v (e.place / 8))
  pub gives : IfSome (place_in v (e.place / 8)) (λ p. EntryOf p e.op e.value)
  pub aligned : e.place % 8 ≡ 0
  pub low : e.place < 2 ^ 60
  pub small : e.value < 2 ^ 64

module _ (v : View) (below : v.log.generation < 2 ^ 62)
    (lane_low : v.fixed.lane < v.fixed.shape.lanes) (unmaking : (c : ℕ)
    → making v.fixed.shape v.claims c ≡ false) where
  abbrev sh : Shape
  sh = v.fixed.shape

  abbrev lane : ℕ
  lane = v.fixed.lane

  -- the view of an open call with these claims and changes, these entries, and these words of the
  -- next
  abbrev pub now : List Claim → List Undrained → List Step → List Entry → List ℕ → View
  now t changes calls es pair = record v {
    claims = t;
    changes = changes;
    calls = calls;
    log = record v.log { phase = Open; entries = es; pair = pair };
  }

  abbrev with_claims : List Claim → View
  with_claims t = record v { claims = t }

  -- what the lane may enter it may enter still, and it knows all words but those of its entries as
  -- it did
  pub record Entered (t : List Claim) : Type 0 where
    pub notes : List Note
    pub are : t ≡ noted notes v.claims
    pub each : AreNotes sh v.claims notes
    pub classes : class t ≡ class v.claims
    pub locks : locked t ≡ locked v.claims
    pub rights : (p : Place) (how : Op) (value : ℕ) → EntersAt v p how value
        → EntersAt (with_claims t) p how value
    pub knowns : (y : ℕ) → is_entry_word sh lane y ≡ false
        → (known sh (runs_one v) t y ≡ known sh (runs_one v) v.claims y)
        × (pictured sh t y ≡ pictured sh v.claims y)

  rights_noted : (t : List Claim) (w x : ℕ) → w ≢ 64 → (p : Place) (how : Op) (value : ℕ)
      → EntersAt (with_claims t) p how value → EntersAt (with_claims (Knows w x ∷ t)) p how value
  rights_noted t w x other (InRun c zero) how value r = r
  rights_noted t w x other (InRun c (suc u)) how value r = r
  rights_noted t w x other (InHuge c u) how value r = r
  rights_noted t w x other (Descr c) how value r = r
  rights_noted t w x other RootWord how value r = (
    subst (λ o. IsSomeAnd o (λ y. HoldsRoot (with_claims t) y))
        (sym (cond-false (w == 64) (Some x) (pictured sh t 64) (ne_eqb w 64 other))) r.0,
    r.1,
    r.2,
  )

  entered_more : (t : List Claim) (w x : ℕ) → is_entry_word sh lane w ≡ true → w ≢ 64 → Entered t
      → Entered (Knows w x ∷ t)
  entered_more t w x entry other m = record {
    notes = Valued w x ∷ m.notes;
    are = ap (λ claims. Knows w x ∷ claims) m.are;
    each = (tt, m.each);
    classes = m.classes;
    locks = m.locks;
    rights = λ p how value r. rights_noted t w x other p how value (m.rights p how value r);
    knowns = λ y not_entry. (
        let apart : w ≢ y =
        (λ e. both_ways (is_entry_word sh lane w) (subst (λ z. is_entry_word sh lane z ≡ false)
        (sym e) not_entry) entry) in
        let k = m.knowns y not_entry in (
          known_noted sh t (runs_one v) (Valued w x) tt y apart ∙ k.0,
          cond-false (w == y) (Some x) (pictured sh t y) (ne_eqb w y apart) ∙ k.1,
        ));
  }

  -- ---- all is made persistent
  no_making : (t : List Claim) → Entered t → (c : ℕ) → making sh t c ≡ false
  no_making t m = subst (λ claims. (c : ℕ) → making sh claims c ≡ false) (sym m.are)
      (making_same sh m.notes v.claims m.each unmaking)

  module _ (t : List Claim) (quiet : (c : ℕ) → making sh t c ≡ false) where
    still_mine : (B : Block) → IsTrue (mine sh t B) → IsTrue (mine sh (Drained [] ∷ t) B)
    still_mine B is = subst IsTrue (sym (mine_noted sh t (DrainedTo []) quiet B)) is

    rights_drained : (p : Place) (how : Op) (value : ℕ) → EntersAt (with_claims t) p how value
        → EntersAt (with_claims (Drained [] ∷ t)) p how value
    rights_drained (InRun c zero) how value r = (
      r.0,
      λ b y gives. let z = r.1 b y gives in
          ((λ yes. still_mine (Small c b) (z.0 yes)), z.1),
    )
    rights_drained (InRun c (suc u)) how value r =
        ⊎_elim (λ (may : MayChangeAt (with_claims t) (InRun c (suc u))). inl may)
        (λ (own : IsOwnData (with_claims t) (InRun c (suc u))). inr
        (own.0, still_mine (block_in (with_claims t) (InRun c (suc u)) 64) own.1, own.2)) r
    rights_drained (InHuge c u) how value r =
        ⊎_elim (λ (may : MayChangeAt (with_claims t) (InHuge c u)). inl may)
        (λ (own : IsOwnData (with_claims t) (InHuge c u)). inr
        (own.0, still_mine (block_in (with_claims t) (InHuge c u) 64) own.1, own.2)) r
    rights_drained (Descr c) how value r = (
      r.0,
      refl,
      ⊎_elim (λ (makes : (value ≡ 2 + 256 * span sh t c) × IsTrue (mine sh t (Big c))). inl
          (makes.0, still_mine (Big c) makes.1))
          (λ (frees : (value ≡ 0) × IsTrue (here sh t (Big c))). inr frees) r.2,
    )
    rights_drained RootWord how value r = r

  entered_drained : (t : List Claim) → Entered t → Entered (Drained [] ∷ t)
  entered_drained t m = record {
    notes = DrainedTo [] ∷ m.notes;
    are = ap (λ claims. Drained [] ∷ claims) m.are;
    each = (subst (λ claims. (c : ℕ) → making sh claims c ≡ false) m.are (no_making t m), m.each);
    classes = m.classes;
    locks = m.locks;
    rights = λ p how value r. rights_drained t (no_making t m) p how value (m.rights p how value r);
    knowns = λ y not_entry. (let k = m.knowns y not_entry in
        (known_noted sh t (runs_one v) (DrainedTo []) (no_making t m) y tt ∙ k.0, k.1));
  }

  -- so it is seen
  abbrev pub Entering : List Entry → List ℕ → View → Type 0
  Entering es pair u = (u ≡ now u.claims u.changes u.calls es pair) × Entered u.claims

  by_claims : (es : List Entry) (pair : List ℕ) (t : List Claim) (u : View)
      → u ≡ now t [] u.calls es pair → Entered t → Entering es pair u × (u.changes ≡ [])
  by_claims es pair t u is m =
      let claims : u.claims ≡ t = ap (λ (y : View). y.claims) is in
      let changes : u.changes ≡ [] = ap (λ (y : View). y.changes) is in (
        (
          is ∙ (ap (λ c. now c [] u.calls es pair) (sym claims)
              ∙ ap (λ ch. now u.claims ch u.calls es pair) (sym changes)),
          subst Entered (sym claims)
              m,
        ),
        changes,
      )

  persisted : (es : List Entry) (pair : List ℕ) (t : List Claim) (changes : List Undrained)
      (calls : List Step) (u : View) → Entered t → IsPersisted (now t changes calls es pair) u
      → Entering es pair u × (u.changes ≡ [])
  persisted es pair t [] calls u m is = by_claims es pair t u is m
  persisted es pair t (c ∷ changes) calls u m is = by_claims es pair (Drained [] ∷ t) u is
      (entered_drained t m)

  pub stays : (es : List Entry) (pair : List ℕ) (u w : View) → Entering es pair u → IsPersisted u w
      → Entering es pair w × (w.changes ≡ [])
  stays es pair u w p is = persisted es pair u.claims u.changes u.calls w p.1
      (subst (λ y. IsPersisted y w) p.0 is)

  module _ (e : Redo) (can : CanPut v e) (es : List Entry) (few : length es < 64) where
    abbrev head : ℕ
    head = e.place + op_code e.op

    abbrev word : ℕ
    word = word_of_entry sh lane (length es)

    spelled_head : head ≡ 8 * (e.place / 8) + op_code e.op
    spelled_head = let a = can.aligned in let q : e.place ≡ 8 * (e.place / 8) = omega (arith, a) in
        ap (λ n. n + op_code e.op) q

    may_still : (t : List Claim) → Entered t → EntersWord (with_claims t) (e.place / 8) e.op e.value
        (place_at sh (class t) (e.place / 8))
    may_still t m = subst (λ (cl : ℕ → ℕ). EntersWord (with_claims t) (e.place / 8) e.op e.value
        (place_at sh cl (e.place / 8))) (sym m.classes) (go (place_in v (e.place / 8)) can.may)
      where
        go : (o : Option Place) → EntersWord v (e.place / 8) e.op e.value o
            → EntersWord (with_claims t) (e.place / 8) e.op e.value o
        go (Some p) r = m.rights p e.op e.value r
        go None r = r

    gives_still : (t : List Claim) → Entered t → IfSome (place_at sh (class t) (e.place / 8))
        (λ p. EntryOf p e.op e.value)
    gives_still t m = subst (λ (cl : ℕ → ℕ). IfSome (place_at sh cl (e.place / 8))
        (λ p. EntryOf p e.op e.value)) (sym m.classes) can.gives

    abbrev StepsTo : List Entry → List ℕ → ℕ → ℕ → View → Type 0
    StepsTo es' pair' w x u = Allowed u (Store w x) × Entering es' pair' (after u (Store w x))

    first_word : (t : List Claim) (changes : List Undrained) (calls : List Step) → Entered t
        → HasRoom changes → StepsTo es (head ∷ []) (word + 0) head (now t changes calls es [])
    first_word t changes calls m room = (
      record {
        inside = omega (arith, few, lane_low);
        room = room;
        small = (let c = code_low e.op in let l = can.low in omega (arith, c, l));
        fits = subst (λ q. StoreFits (now t changes calls es []) (word + 0) head Open q)
            (sym (part_entry sh lane (word + 0) (length es) 0 few (omega arith) refl))
            (record {
              how = e.op;
              word = e.place / 8;
              value = e.value;
              may = may_still t m;
              gives = gives_still t m;
              small = can.small;
              spells = ap (λ h. h ∷ []) spelled_head;
              at = refl;
              free = few;
              below = below;
            });
      },
      subst (λ q. Entering es (head ∷ []) (changed_from (Store (word + 0) head) (now t changes calls es []) (word + 0)
          all_bits (was_of Open q (pictured sh t (word + 0))) head (marked_by Open q head t)
          (log_stored sh (class t) Open q head (record v.log {
            phase = Open;
            entries = es;
            pair = [];
          }))))
          (sym (part_entry sh lane (word + 0) (length es) 0 few (omega arith) refl)) (
            refl,
            entered_more t (word + 0) head (entry_word sh lane (word + 0) (length es) 0 few
                (omega arith) refl) (λ z. omega (arith, z)) m,
          ),
    )

    second_word : (t : List Claim) (changes : List Undrained) (calls : List Step) → Entered t
        → HasRoom changes → StepsTo (es ++ logged_entry v e ∷ []) [] (word + 1) e.value
        (now t changes calls es (head ∷ []))
    second_word t changes calls m room = (
      record {
        inside = omega (arith, few, lane_low);
        room = room;
        small = can.small;
        fits = subst (λ q. StoreFits (now t changes calls es (head ∷ [])) (word + 1) e.value Open q)
            (sym (part_entry sh lane (word + 1) (length es) 1 few (omega arith) refl))
            (record {
              how = e.op;
              word = e.place / 8;
              value = e.value;
              may = may_still t m;
              gives = gives_still t m;
              small = can.small;
              spells = ap (λ h. h ∷ e.value ∷ []) spelled_head;
              at = refl;
              free = few;
              below = below;
            });
      },
      subst (λ q. Entering (es ++ logged_entry v e ∷ []) []
          (changed_from (Store (word + 1) e.value) (now t changes calls es (head ∷ [])) (word + 1) all_bits
          (was_of Open q (pictured sh t (word + 1))) e.value (marked_by Open q e.value t)
          (log_stored sh (class t) Open q e.value (record v.log {
            phase = Open;
            entries = es;
            pair = head ∷ [];
          }))))
          (sym (part_entry sh lane (word + 1) (length es) 1 few (omega arith) refl)) (
            ap (λ d. now (Knows (word + 1) e.value ∷ t) (record {
              word = word + 1;
              mask = all_bits;
              old = None;
              flushed = false;
            } ∷ changes) (Store (word + 1) e.value ∷ calls) (es ++ d ∷ []) [])
                (entered_back sh (class t) e.place e.op e.value can.aligned
                ∙ ap (λ (cl : ℕ → ℕ). record {
                  word = e.place / 8;
                  place = place_at sh cl (e.place / 8);
                  op = e.op;
                  value = e.value;
                }) m.classes),
            entered_more t (word + 1) e.value (entry_word sh lane (word + 1) (length es) 1 few
                (omega arith) refl) (λ z. omega (arith, z)) m,
          ),
    )

    -- the pair is stored
    pub pair_goes : Goes (Entering es []) (writes_pair sh lane (length es) e)
        (Entering (es ++ logged_entry v e ∷ []) [])
    unfolding writes_pair stores_from repeated
    pair_goes = goes_then (Entering es []) (Entering es (head ∷ []))
        (Entering (es ++ logged_entry v e ∷ []) []) (in_turn nothing (stores (word + 0) head))
        (stores (word + 1) e.value)
        (goes_then (Entering es []) (Entering es []) (Entering es (head ∷ [])) nothing
        (stores (word + 0) head) (goes_nothing (Entering es []))
        (goes_stores (Entering es []) (Entering es (head ∷ [])) (word + 0) head
        (λ u w p is. (stays es [] u w p is).0)
        (λ u p. subst (λ y. HasRoom y.changes → StepsTo es (head ∷ []) (word + 0) head y)
        (sym p.0) (first_word u.claims u.changes u.calls p.1))))
        (goes_stores (Entering es (head ∷ [])) (Entering (es ++ logged_entry v e ∷ []) [])
        (word + 1) e.value (λ u w p is. (stays es (head ∷ []) u w p is).0)
        (λ u p. subst (λ y. HasRoom y.changes → StepsTo (es ++ logged_entry v e ∷ []) []
        (word + 1) e.value y) (sym p.0) (second_word u.claims u.changes u.calls p.1)))
