-- A redo log may be written at once, entry after entry, and made persistent, and what that leaves.
use Rattle.std.proofs.Common.{◌≡◌, ℕ, ◌+◌, ◌*◌, ◌/◌, ◌<◌, ◌≤◌, ◌⊎◌, inl, inr, ⊎_elim, ◌&&◌, true, All, List, [], ◌∷◌, ◌++◌, length, length-append, map, take, slice_index, is_some, refl, sym, ap, ◌∙◌, subst, arith}
use Rattle.std.specs.List.{list_any}
use Rattle.std.proofs.lemmas.List.{length-map, length-take-le}
use Rattle.std.proofs.lemmas.List.Elements.{All-weaker}
use Rattle.pm_record.specs.declared.redo.Redo.{Redo}
use Rattle.solo_view.specs.Area.{area_word, is_in_area}
use Rattle.solo_view.specs.Held.{is_under}
use Rattle.solo_view.specs.Log.{Final, Log, log_drained}
use Rattle.solo_view.specs.View.{View, Lock}
use Rattle.solo_view.specs.Views.{after_all}
use Rattle.solo_world.specs.Entries.{IsEnterable, IsGrowing}
use Rattle.solo_world.specs.Records.{generation_of}
use Rattle.solo_world.specs.Sequences.{Ready, by_lane, by_view, looks, settles, with_word}
use Rattle.solo_world.proofs.Going.{Goes, goes_counted, goes_then, goes_weaker}
use Rattle.solo_undo.specs.Sequences.{with_generation}
use Rattle.solo_undo.specs.Working.{IsSameCall, IsSettled, KeepsOutside, log_settled}
use Rattle.solo_undo.proofs.Areas.{generation_in_area}
use Rattle.solo_undo.proofs.Retired.{area_look}
use Rattle.solo_undo.proofs.Settled.{settle_lawful}
use Rattle.solo_undo.proofs.Staying.{looked, same_call-then, same_looked, same_settled}
use Rattle.solo_undo.proofs.Storing.{Is}
use Rattle.solo_redo.specs.Entering.{HasEntered, HasLogged, IsEntering, IsOfPool, IsOfWord, IsReadyToLog, ending, final_of, EntersHeap, MayEnter}
use Rattle.solo_redo.specs.Sequences.{ending_of, entry_at, logs, puts, writes_entries, writes_pair, writes_pairs}
use Rattle.solo_redo.proofs.Applied.{front_or_last, mapped_at, take_all, take_more}
use Rattle.solo_redo.proofs.Entered.{put_lawful}
use Rattle.solo_redo.proofs.Whole.{may_enter_kept, may_word}

module _ (v : View) (entries : List Redo) (ready : IsReadyToLog v) (few : length entries ≤ 63) (of_pool : All (MayEnter v) entries) where
  abbrev all : List Redo
  all = entries ++ ending v ∷ []

  abbrev finals : List Final
  finals = map final_of all

  number : length all ≡ length entries + 1
  number = length-append entries (ending v ∷ [])

  count : length finals ≡ length all
  count = length-map all final_of

  -- so many entries are stored
  record HasSome (k : ℕ) (u : View) : Type 0 where
    call : IsSameCall v u
    entering : IsEntering u
    log : u.log ≡ record v.log { entries = take k finals }
    outside : KeepsOutside v u
    generation : generation_of u ≡ generation_of v

  abbrev g : ℕ
  g = area_word v.lane

  begins : HasSome 0 (looked v g)
  begins = record {
    call = same_looked v g;
    entering =
        (let e = ready.entering in let a = e.area in
        record { is_open = e.is_open; undrawn = e.undrawn; area = record { lane = a.lane; few = a.few; inside = a.inside; below = a.below }; few = e.few });
    log = ap (λ (es : List Final). let l : Log = record v.log { entries = es } in l) ready.none;
    outside = λ u out. refl;
    generation = refl;
  }

  module _ (k : ℕ) (low : k < length all) (u : View) (has : HasSome k u) where
    abbrev e : Redo
    e = entry_at all k

    lane : u.lane ≡ v.lane
    lane = has.call.lane.lane

    which : MayEnter v e ⊎ (e ≡ ending v)
    which = front_or_last entries (ending v) k (MayEnter v) of_pool low

    stored : length u.log.entries ≡ k
    stored = ap (λ (l : Log). length l.entries) has.log ∙ length-take-le k finals (let c = count in omega (arith, c, low))

    free : length u.log.entries < 64
    free = let s = stored in let n = number in omega (arith, s, n, low, few)

    entry : IsOfWord e
    entry = ⊎_elim (λ (o : MayEnter v e). may_word v e o)
        (λ (same : e ≡ ending v). subst IsOfWord (sym same) (record { aligned = omega arith; word = let below = ready.entering.area.below in omega (arith, below) })) which

    may : IsEnterable u e.op (e.place / 8) e.value
    may = record {
      of = ⊎_elim
          (λ (may : MayEnter v e). ⊎_elim
          (λ (o : IsOfPool v e). inl (subst (λ (locks : List Lock). list_any (λ (l : Lock). l.write && is_some l.block && is_under (e.place / 8) l) locks ≡ true) (sym has.call.locks) o.own))
          (λ (h : EntersHeap v e). inr (inr (has.call.lane.table ∙ h.alone, subst IsGrowing (sym has.entering.is_open) tt, ap (λ j. is_in_area j (e.place / 8)) lane ∙ h.outside))) may)
          (λ (same : e ≡ ending v).
          let word : e.place / 8 ≡ area_word v.lane = ap (λ (x : Redo). x.place / 8) same ∙ (let q : 8 * area_word v.lane / 8 ≡ area_word v.lane = omega arith in q) in
          inr (inl (word ∙ ap area_word (sym lane), ap (λ (x : Redo). x.op) same)))
          which;
      word = λ other. entry.word;
    }

    one_more : (w : View) → HasEntered u e w → HasSome (k + 1) w
    one_more w entered = record {
      call = same_call-then v u w has.call entered.call;
      entering = entered.entering;
      log =
          entered.log
          ∙ (ap (λ (l : Log). let m : Log = record l { entries = l.entries ++ final_of e ∷ [] } in m) has.log
          ∙ ap (λ (es : List Final). let m : Log = record v.log { entries = es } in m) (sym (take_more finals k (final_of e) (mapped_at all k low))));
      outside = λ x out. entered.outside x (ap (λ j. is_in_area j x) lane ∙ out) ∙ has.outside x out;
      generation = entered.generation ∙ has.generation;
    }

    next : Ready u (writes_pair v.lane k e u) × HasSome (k + 1) (after_all u (writes_pair v.lane k e u))
    unfolding puts by_lane by_view
    next =
        let p = put_lawful u e has.entering free entry.aligned may in
        subst (λ (n : ℕ). Ready u (writes_pair n k e u) × HasSome (k + 1) (after_all u (writes_pair n k e u))) lane
        (subst (λ (n : ℕ). Ready u (writes_pair u.lane n e u) × HasSome (k + 1) (after_all u (writes_pair u.lane n e u))) stored (p.0, one_more (after_all u (puts (length u.log.entries) e u)) p.1))

  each : Goes (HasSome 0) (writes_pairs v.lane all) (HasSome (length all))
  unfolding writes_pairs
  each = goes_counted HasSome (λ i. writes_pair v.lane i (entry_at all i)) (length all) next

  ends : (u w : View) → HasSome (length all) u → IsSettled u w → HasLogged v entries w
  ends u w has settled =
      let call : IsSameCall v w = same_call-then v u w has.call (same_settled u w settled) in
      let words : w.words ≡ u.words = ap (λ (y : View). y.words) settled in
      let log : w.log ≡ record v.log { entries = finals } =
      ap (λ (y : View). y.log) settled ∙ (still u.changes ∙ (has.log ∙ ap (λ (es : List Final). let m : Log = record v.log { entries = es } in m) (ap (λ k. take k finals) (sym count) ∙ take_all finals))) in
      let generation : generation_of w ≡ generation_of v = ap (λ (y : View). generation_of y) settled ∙ has.generation in
      let lane : w.lane ≡ v.lane = call.lane.lane in
      record {
        call = call;
        entered = record {
          front = entries;
          are = sym (λ j. entries ++ ending_of (lane j) (generation j) ∷ []);
          each = All-weaker (MayEnter v) (MayEnter w) (λ r o. may_enter_kept v w r call (λ x out. ap (λ (ws : List ℕ). slice_index ws x) words ∙ has.outside x out) o) entries of_pool;
          logged = ap (λ (l : Log). l.entries) log;
          most = let n = number in omega (arith, n, few);
        };
        is_open = ap (λ (l : Log). l.phase) log ∙ ready.entering.is_open;
        records = ap (λ (l : Log). l.records) log;
        drained = ap (λ (y : View). y.changes) settled;
        outside = λ x out. ap (λ (ws : List ℕ). slice_index ws x) words ∙ has.outside x out;
        generation = generation;
      } where
        still : (changes : _) → log_settled changes u ≡ u.log
        still [] = refl
        still (c ∷ changes) = ap (λ phase. log_drained phase (is_some u.number) u.log) has.entering.is_open

  pub log_lawful : Ready v (logs entries v) × HasLogged v entries (after_all v (logs entries v))
  unfolding logs with_generation by_lane with_word by_view writes_entries
  log_lawful =
      goes_then (Is v) (HasSome 0) (HasLogged v entries) (looks g) (writes_entries v.lane all)
      (goes_weaker (Is v) (Is v) (Is (looked v g)) (HasSome 0) (looks g) (λ u is. is) (λ u is. subst (HasSome 0) (sym is) begins)
      (area_look v ready.entering.area g (generation_in_area v.lane) (let most = ready.entering.area.inside in omega (arith, most))))
      (goes_then (HasSome 0) (HasSome (length all)) (HasLogged v entries) (writes_pairs v.lane all) settles each
      (λ u has. let s = settle_lawful u in (s.0, ends u (after_all u (settles u)) has s.1)))
      v refl
