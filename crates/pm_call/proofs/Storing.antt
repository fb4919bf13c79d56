-- BYTES ARE PUT INTO RECORDED WORDS, one word after another: those stored have their new values, all others what they had.
use Rattle.std.specs.Prelude.{unwrap_or, bit_and}
use Rattle.std.proofs.Common.{◌≡◌, ◌≢◌, ℕ, zero, suc, ◌+◌, ◌-◌, ◌*◌, ◌/◌, ◌%◌, ◌^◌, ◌<◌, ◌≤◌, ◌⊎◌, inl, inr, ⊎_elim, Bool, true, false, cond, Contains, List, [], ◌∷◌, length, get_or, refl, sym, ap, ◌∙◌, subst, arith, eq-eqb, ◌==◌, ◌&&◌, nat_le, Option, None, Some, IsTrue}
use Rattle.std.specs.List.{AllByRecursion}
use Rattle.std.specs.Option.{option_map}
use Rattle.std.proofs.lemmas.Option.{same_Some}
use Rattle.std.proofs.lemmas.Bool.{and_parts, both_ways, cases_eq, cond-true, eqb-true, leb-true}
use Rattle.pm_layout.specs.declared.shape.Shape.{Shape}
use Rattle.pm_layout.specs.Chunks.{words_of}
use Rattle.pm_objects.specs.declared.ids.Oid.{Oid}
use Rattle.pm_model.specs.Transaction.{covered_words}
use Rattle.pm_view.specs.Bits.{all_bits}
use Rattle.pm_view.specs.Changes.{Undrained}
use Rattle.pm_view.specs.Claims.{Claim, Drained, class, pictured}
use Rattle.pm_view.specs.Counts.{HasRoom}
use Rattle.pm_view.specs.Founds.{knows}
use Rattle.pm_view.specs.Log.{Log, Open, log_drained, log_stored, place_at}
use Rattle.pm_view.specs.Parts.{ChunkPart}
use Rattle.pm_view.specs.Places.{Place, Block, word_of}
use Rattle.pm_view.specs.Steps.Step.{Load, Store}
use Rattle.pm_view.specs.View.{View}
use Rattle.pm_view.specs.Views.{after, changed_from, decided_by, learned, marked_by, part_in, value_in, was_of}
use Rattle.pm_view.specs.Steps.{Step}
use Rattle.pm_world.specs.LaneFields.{Standing}
use Rattle.pm_world.specs.Lawful.{MayStore, StoreFits, place_in}
use Rattle.pm_world.specs.Sights.{is_logged_from, is_recorded}
use Rattle.pm_crash.specs.Looked.{KnowsWord, word_place}
use Rattle.pm_crash.specs.Writes.{written_word}
use Rattle.pm_crash.proofs.Covered.{covered_has_byte}
use Rattle.pm_crash.proofs.OpeningBits.{all_member}
use Rattle.pm_model.specs.Items.{is_among}
use Rattle.pm_plan.specs.Plans.{IsPersisted, claims_persisted, known_word, log_persisted, looks, stores, in_turn}
use Rattle.pm_plan.proofs.Going.{Goes, goes_look, goes_stores, goes_then}
use Rattle.pm_undo.specs.Records.{kept_by}
use Rattle.pm_undo.specs.Spans as spans
use Rattle.pm_plan.specs.Notes.{AreNotes, DrainedTo, IsBeyond, Looked, Note, Valued, noted}
use Rattle.pm_plan.proofs.AreaParts.{OfChunk, data_beyond, data_part, in_pool}
use Rattle.pm_plan.proofs.Notes as notes
use Rattle.pm_undo.proofs.RecordedWords.{logged_so}
use Rattle.pm_undo.proofs.WordsWritten.{KeptPlace, kept_place}
use Rattle.pm_call.specs.At.{At, IsDataOf}
use Rattle.pm_call.specs.Held.{IsObjectWord}
use Rattle.pm_call.specs.Plans.{writes_word}
use Rattle.pm_call.specs.Writing.{MayPut}
use Rattle.pm_call.proofs.Frames.{noting}
use Rattle.pm_call.proofs.KnownObjects.{word_known}
use Rattle.pm_call.proofs.Noting.{object_word_so, place_so, sound_so}
use Rattle.pm_call.proofs.ObjectWords.{IsDataPlace, object_known, object_place}
use Rattle.pm_call.proofs.RangeWords.{has_line_, object, range_number, range_word}
use Rattle.pm_call.proofs.SmallWords.{written_small}

-- ---- what one more look notes
abbrev looked_on : ℕ → ℕ → ℕ → ℕ → List Note → List Note
looked_on c zero w x ns = Valued w x ∷ (Looked c x ∷ ns)
looked_on c (suc n) w x ns = Valued w x ∷ ns

learned_on : (c at w x : ℕ) (ns : List Note) (t : List Claim) → learned Open (ChunkPart c at) w x (noted ns t) ≡ noted (looked_on c at w x ns) t
learned_on c zero w x ns t = refl
learned_on c (suc n) w x ns t = refl

are_on : (sh : Shape) (t : List Claim) (c at w x : ℕ) (ns : List Note) → AreNotes sh t ns → (at ≡ 0 → class t c ≡ 0) → AreNotes sh t (looked_on c at w x ns)
are_on sh t c zero w x ns are h = (tt, (ap (λ f. f c) (notes.class_same ns t) ∙ h refl, are))
are_on sh t c (suc n) w x ns are h = (tt, are)

here_on : (sh : Shape) (t : List Claim) (c at w x : ℕ) (ns : List Note) → pictured sh (noted (looked_on c at w x ns) t) w ≡ Some x
here_on sh t c zero w x ns = cond-true (w == w) (Some x) _ (eq-eqb w w refl)
here_on sh t c (suc n) w x ns = cond-true (w == w) (Some x) _ (eq-eqb w w refl)

else_on : (sh : Shape) (t : List Claim) (c at w x u : ℕ) (ns : List Note) → AreNotes sh t (looked_on c at w x ns) → w ≢ u → pictured sh (noted (looked_on c at w x ns) t) u ≡ pictured sh (noted ns t) u
else_on sh t c zero w x u ns are ne = notes.pictured_noted sh (noted (Looked c x ∷ ns) t) (Valued w x) tt u ne ∙ notes.pictured_noted sh (noted ns t) (Looked c x) are.1.0 u tt
else_on sh t c (suc n) w x u ns are ne = notes.pictured_noted sh (noted ns t) (Valued w x) tt u ne

is_true : (b : Bool) → b ≡ true → IsTrue b
is_true true e = search Rattle.std.proofs.Common.rules
is_true false e = absurd (both_ways false refl e)

-- ---- all is made persistent
claims_kept : (sh : Shape) (changes : List Undrained) (log : Log) (ns : List Note) (t : List Claim) → log.phase ≡ Open
    → (claims_persisted changes log (noted ns t) ≡ noted ns t) ⊎ (claims_persisted changes log (noted ns t) ≡ noted (DrainedTo [] ∷ ns) t)
claims_kept sh [] log ns t open_ = inl refl
claims_kept sh (c ∷ changes) log ns t open_ = inr (ap (λ ph. decided_by ph log.entries (Drained [] ∷ noted ns t)) open_)

log_kept : (changes : List Undrained) (log : Log) → log.phase ≡ Open → log_persisted changes log ≡ log
log_kept [] log open_ = refl
log_kept (c ∷ changes) log open_ = ap (λ ph. log_drained ph log) open_

module _ (s : Standing) (at : At s) (id : Oid) (off : ℕ) (bytes : List ℕ) (can : MayPut s id off bytes) where
  abbrev v : View
  v = s.view

  abbrev sh : Shape
  sh = s.view.fixed.shape

  abbrev pub IsCovered : ℕ → Type 0
  IsCovered i = Contains (covered_words (id.off + off) (length bytes)) i

  abbrev pub new_word : ℕ → ℕ
  new_word i = written_word (id.off + off) bytes i (known_word s.view i)

  abbrev pub block : Block
  block = (object s at id off (length bytes) true can.range).block

  abbrev pub index : ℕ → ℕ
  index i = i - (id.off / 8 - 8)

  abbrev pub range_place : ℕ → Place
  range_place i = word_place s.view block (index i)

  pub word_is : (i : ℕ) → IsCovered i → IsObjectWord s.view block (index i)
  word_is i c = range_word s at id off (length bytes) true can.range i c

  pub number_is : (i : ℕ) → IsCovered i → word_of sh (range_place i) ≡ i
  number_is i c = range_number s at id off (length bytes) true can.range i c

  pub place_is : (i : ℕ) → IsCovered i → IsDataPlace s.view block (range_place i)
  place_is i c = object_place v at.sound block (index i) (word_is i c)

  pub use_is : (i : ℕ) → IsCovered i → place_in v i ≡ Some (range_place i)
  use_is i c = ap (place_in v) (sym (number_is i c)) ∙ (place_is i c).use_

  pub beyond : (i : ℕ) → IsCovered i → IsBeyond sh i
  beyond i c = subst (IsBeyond sh) (number_is i c) (data_beyond sh (range_place i) (place_is i c).data_)

  has_record : (i : ℕ) → IsCovered i → KeptPlace v v.log.records i
  has_record i c = kept_place v v.log.records i at.working.standing
      (all_member (is_among (spans.words_in (kept_by v))) (covered_words (id.off + off) (length bytes)) i can.recorded c)

  pub recorded_is : (i : ℕ) → IsCovered i → is_recorded s.view.log.records (range_place i) ≡ true
  recorded_is i c = let h = has_record i c in subst (λ p. is_recorded v.log.records p ≡ true)
      (same_Some h.place (range_place i) (sym h.is_known.use_ ∙ (ap (place_in v) h.word ∙ use_is i c))) h.has_

  -- so its value is known
  data_is : (i : ℕ) → IsCovered i → IsDataOf s.view (range_place i)
  data_is i c = at.recorded (range_place i) (recorded_is i c)

  seen_is : (i : ℕ) (c : IsCovered i) → value_in s.view i ≡ Some (data_is i c).value
  seen_is i c = ap (value_in v) (sym (number_is i c)) ∙ (data_is i c).known

  known_value : (i : ℕ) (c : IsCovered i) → known_word s.view i ≡ (data_is i c).value
  known_value i c = let n = number_is i c in
      ap (λ o. unwrap_or o 0) (ap (knows v) (sym n) ∙ (object_known v at.sound block (index i) (word_is i c) ∙ (ap (value_in v) n ∙ seen_is i c)))

  pub known_is : (i : ℕ) → IsCovered i → value_in s.view i ≡ Some (known_word s.view i)
  known_is i c = seen_is i c ∙ ap (λ n. Some n) (sym (known_value i c))

  pub known_small : (i : ℕ) → IsCovered i → known_word s.view i < 2 ^ 64
  known_small i c = subst (λ n. n < 2 ^ 64) (sym (known_value i c)) (data_is i c).small

  pub word_knows : (i : ℕ) → IsCovered i → KnowsWord s.view [] block (index i) (known_word s.view i)
  word_knows i c = word_known v at.sound block (index i) (known_word v i) (word_is i c) (ap (value_in v) (number_is i c) ∙ known_is i c) (known_small i c)

  -- and it is of the object's data
  pub index_high : (i : ℕ) → IsCovered i → 8 ≤ index i
  index_high i c =
      let hi = (covered_has_byte (id.off + off) (length bytes) i c).2 in
      let t = and_parts (id.off % 64 == 0) (nat_le 128 id.off) (has_line_ s at id off (length bytes) true can.range) in
      let even = eqb-true (id.off % 64) 0 t.0 in let high = leb-true 128 id.off t.1 in omega (arith, hi, even, high)

  pub new_small : (i : ℕ) → IsCovered i → new_word i < 2 ^ 64
  new_small i c = written_small (id.off + off) bytes i (known_word v i) can.are_bytes

  -- ---- the covered words below this one are stored
  pub record Stored (n : ℕ) (ns : List Note) (changes : List Undrained) : Type 0 where
    pub each : AreNotes sh v.claims ns
    pub far : AllByRecursion (λ (c : Undrained). IsBeyond sh c.word) changes
    pub done : (i : ℕ) → IsCovered i → i < n → pictured sh (noted ns v.claims) i ≡ Some (new_word i)
    pub stays : (i : ℕ) → (¬ IsCovered i) ⊎ (n ≤ i) → pictured sh (noted ns v.claims) i ≡ pictured sh v.claims i

  pub record Storing (n : ℕ) (u : View) : Type 0 where
    pub notes : List Note
    pub changes : List Undrained
    pub calls : List Step
    pub is : u ≡ noting s.view notes changes calls s.view.log
    pub stored : Stored n notes changes

  pub storing_starts : Storing ((id.off + off) / 8) s.view
  storing_starts = record {
    notes = [];
    changes = v.changes;
    calls = v.calls;
    is = refl;
    stored = record { each = tt; far = at.working.clean; done = λ i c low. absurd (let b = covered_has_byte (id.off + off) (length bytes) i c in let hi = b.2 in omega (arith, hi, low)); stays = λ i out. refl };
  }

  persisted_storing : (n : ℕ) (u w : View) → Storing n u → IsPersisted u w → Storing n w
  persisted_storing n u w p is = go (claims_kept sh p.changes v.log p.notes v.claims at.working.is_open)
    where
      claims_so : u ≡ noting s.view p.notes p.changes p.calls s.view.log → w ≡ record v { claims = claims_persisted p.changes v.log (noted p.notes v.claims); changes = []; calls = w.calls; log = v.log }
      claims_so e = is ∙ (ap (λ (y : View). record y { claims = claims_persisted y.changes y.log y.claims; changes = []; calls = w.calls; log = log_persisted y.changes y.log }) e
          ∙ ap (λ l. record v { claims = claims_persisted p.changes v.log (noted p.notes v.claims); changes = []; calls = w.calls; log = l }) (log_kept p.changes v.log at.working.is_open))

      with_notes : (ns : List Note) → claims_persisted p.changes v.log (noted p.notes v.claims) ≡ noted ns v.claims → Stored n ns [] → Storing n w
      with_notes ns e st = record { notes = ns; changes = []; calls = w.calls; is = claims_so p.is ∙ ap (λ t. record v { claims = t; changes = []; calls = w.calls; log = v.log }) e; stored = st }

      go : (claims_persisted p.changes v.log (noted p.notes v.claims) ≡ noted p.notes v.claims) ⊎ (claims_persisted p.changes v.log (noted p.notes v.claims) ≡ noted (DrainedTo [] ∷ p.notes) v.claims) → Storing n w
      go (inl e) = with_notes p.notes e (record { each = p.stored.each; far = tt; done = p.stored.done; stays = p.stored.stays })
      go (inr e) = with_notes (DrainedTo [] ∷ p.notes) e (record { each = (notes.making_same sh p.notes v.claims p.stored.each at.working.unmaking, p.stored.each); far = tt; done = p.stored.done; stays = p.stored.stays })

  -- ---- the next word
  module _ (n : ℕ) (c : IsCovered n) where
    chunk : OfChunk s.view.fixed.shape (class s.view.claims) s.view.fixed.lane n (range_place n)
    chunk = data_part sh (class v.claims) v.fixed.lane n (range_place n) at.working.lane (place_is n c).data_ (use_is n c)

    low : n < words_of s.view.fixed.shape
    low = subst (λ w. w < words_of sh) (number_is n c) (in_pool sh (range_place n) (place_is n c).data_ (place_is n c).there)

    module _ (ns : List Note) (changes : List Undrained) (calls : List Step) (st : Stored n ns changes) where
      abbrev u : View
      u = noting s.view ns changes calls s.view.log

      value_same : value_in u n ≡ Some (known_word s.view n)
      value_same = st.stays n (inr (omega arith)) ∙ known_is n c

      known_here : knows u n ≡ Some (known_word s.view n)
      known_here = let number : word_of sh (word_place u block (index n)) ≡ n = ap (word_of sh) (place_so v ns changes calls v.log st.each at.working.unmaking block (index n)) ∙ number_is n c in
          ap (knows u) (sym number)
          ∙ (object_known u (sound_so v ns changes calls v.log st.each at.working.unmaking at.sound) block (index n) (object_word_so v ns changes calls v.log st.each at.working.unmaking block (index n) (word_is n c))
          ∙ (ap (value_in u) number ∙ value_same))

      known_so : known_word u n ≡ known_word s.view n
      known_so = ap (λ o. unwrap_or o 0) known_here

      -- it is looked at
      looked_is : (x : ℕ) → after u (Load n x) ≡ noting s.view (looked_on chunk.chunk chunk.at n x ns) changes calls s.view.log
      looked_is x = ap (λ ph. record u { claims = learned ph (part_in v n) n x (noted ns v.claims) }) at.working.is_open
          ∙ (ap (λ y. record u { claims = learned Open y n x (noted ns v.claims) }) chunk.part ∙ ap (λ t. record u { claims = t }) (learned_on chunk.chunk chunk.at n x ns v.claims))

      looked_stored : (x : ℕ) → x ≡ known_word s.view n → Stored n (looked_on chunk.chunk chunk.at n x ns) changes
      looked_stored x e = let are = are_on sh v.claims chunk.chunk chunk.at n x ns st.each chunk.huge in record {
        each = are;
        far = st.far;
        done = λ i d less. else_on sh v.claims chunk.chunk chunk.at n x i ns are (λ q. omega (arith, q, less)) ∙ st.done i d less;
        stays = λ i out. ⊎_elim
            (λ (q : n ≡ i). subst (λ j. pictured sh (noted (looked_on chunk.chunk chunk.at n x ns) v.claims) j ≡ pictured sh v.claims j) q
            (here_on sh v.claims chunk.chunk chunk.at n x ns ∙ (ap (λ y. Some y) e ∙ sym (known_is n c))))
            (λ (ne : n ≢ i). else_on sh v.claims chunk.chunk chunk.at n x i ns are ne ∙ st.stays i out) (cases_eq n i);
      }

      look_on : (n < words_of u.fixed.shape) × (knows u n ≡ Some (known_word u n)) × Storing n (after u (Load n (known_word u n)))
      look_on = (
        low,
        known_here ∙ ap (λ y. Some y) (sym known_so),
        record {
          notes = looked_on chunk.chunk chunk.at n (known_word u n) ns;
          changes = changes;
          calls = calls;
          is = looked_is (known_word u n);
          stored = looked_stored (known_word u n) known_so;
        },
      )

      -- and stored
      may_store : HasRoom changes → MayStore u n (new_word n)
      may_store room = record {
        inside = low;
        room = room;
        small = new_small n c;
        fits = subst (λ ph. StoreFits u n (new_word n) ph (part_in v n)) (sym at.working.is_open) (subst (λ y. StoreFits u n (new_word n) Open y) (sym chunk.part) (inl (record {
          place = range_place n;
          at = ap (λ cl. place_at sh cl n) (notes.class_same ns v.claims) ∙ use_is n c;
          logged = is_true (is_logged_from sh v.fixed.lane changes 0 v.log.records (range_place n))
              (logged_so sh v.fixed.lane 0 changes v.log.records (range_place n) at.working.lane (let few = at.working.few in omega (arith, few)) st.far (recorded_is n c));
          unentered = at.working.unentered;
        })));
      }

      abbrev change : Undrained
      change = record { word = n; mask = all_bits; old = option_map (λ old. bit_and old all_bits) (value_in u n); flushed = false }

      stored_is : after u (Store n (new_word n)) ≡ noting s.view (Valued n (new_word n) ∷ ns) (change ∷ changes) (Store n (new_word n) ∷ calls) s.view.log
      stored_is = ap (λ ph. changed_from (Store n (new_word n)) u n all_bits (was_of ph (part_in v n) (value_in u n)) (new_word n) (marked_by ph (part_in v n) (new_word n) u.claims) (log_stored sh (class u.claims) ph (part_in v n) (new_word n) v.log)) at.working.is_open
          ∙ ap (λ y. changed_from (Store n (new_word n)) u n all_bits (was_of Open y (value_in u n)) (new_word n) (marked_by Open y (new_word n) u.claims) (log_stored sh (class u.claims) Open y (new_word n) v.log)) chunk.part

      store_on : Storing (n + 1) (after u (Store n (new_word n)))
      store_on = record {
        notes = Valued n (new_word n) ∷ ns;
        changes = change ∷ changes;
        calls = Store n (new_word n) ∷ calls;
        is = stored_is;
        stored = record {
          each = (tt, st.each);
          far = (beyond n c, st.far);
          done = λ i d less. ⊎_elim
              (λ (q : n ≡ i). subst (λ j. pictured sh (noted (Valued n (new_word n) ∷ ns) v.claims) j ≡ Some (new_word j)) q (cond-true (n == n) (Some (new_word n)) (pictured sh (noted ns v.claims) n) (eq-eqb n n refl)))
              (λ (ne : n ≢ i). notes.pictured_noted sh (noted ns v.claims) (Valued n (new_word n)) tt i ne ∙ st.done i d (grind (arith, less, ne))) (cases_eq n i);
          stays = λ i out. notes.pictured_noted sh (noted ns v.claims) (Valued n (new_word n)) tt i (other i out) ∙ st.stays i (weaker i out);
        };
      }
        where
          other : (i : ℕ) → (¬ IsCovered i) ⊎ (n + 1 ≤ i) → n ≢ i
          other i (inl out) e = out (subst IsCovered e c)
          other i (inr high) e = omega (arith, high, e)

          weaker : (i : ℕ) → (¬ IsCovered i) ⊎ (n + 1 ≤ i) → (¬ IsCovered i) ⊎ (n ≤ i)
          weaker i (inl out) = inl out
          weaker i (inr high) = inr (omega (arith, high))

    goes_look_on : Goes (Storing n) (looks n) (Storing n)
    goes_look_on = goes_look (Storing n) (Storing n) n (λ u p. subst (λ (y : View). (n < words_of y.fixed.shape) × (knows y n ≡ Some (known_word y n)) × Storing n (after y (Load n (known_word y n)))) (sym p.is) (look_on p.notes p.changes p.calls p.stored))

    goes_store_on : Goes (Storing n) (stores n (new_word n)) (Storing (n + 1))
    goes_store_on = goes_stores (Storing n) (Storing (n + 1)) n (new_word n) (persisted_storing n) (λ u p room. subst (λ (y : View). HasRoom y.changes → MayStore y n (new_word n) × Storing (n + 1) (after y (Store n (new_word n)))) (sym p.is)
        (λ r. (may_store p.notes p.changes p.calls p.stored r, store_on p.notes p.changes p.calls p.stored)) room)

    -- THE WORD GETS ITS NEW VALUE
    pub goes_word : Goes (Storing n) (writes_word (id.off + off) bytes n) (Storing (n + 1))
    unfolding writes_word
    goes_word u p = let same : known_word u n ≡ known_word s.view n = ap (λ (y : View). known_word y n) p.is ∙ known_so p.notes p.changes p.calls p.stored in
        subst (λ x. Rattle.pm_plan.specs.Plans.Ready u (in_turn (looks n) (stores n (written_word (id.off + off) bytes n x)) u) × Storing (n + 1) (Rattle.pm_view.specs.Views.after_all u (in_turn (looks n) (stores n (written_word (id.off + off) bytes n x)) u))) (sym same)
        (goes_then (Storing n) (Storing n) (Storing (n + 1)) (looks n) (stores n (new_word n)) goes_look_on goes_store_on u p)
