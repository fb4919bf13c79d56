-- Writing a log is lawful, and its entries stand in it.
use Rattle.std.proofs.Common.{◌≡◌, ◌≢◌, ℕ, ◌+◌, ◌*◌, ◌/◌, ◌<◌, ◌≤◌, true, List, [], ◌∷◌, ◌++◌, length, map, take, get_or, refl, sym, ap, ◌∙◌, subst, arith, Option, None}
use Rattle.std.specs.Prelude.{IfSome}
use Rattle.std.specs.List.{All, AllByRecursion}
use Rattle.std.proofs.lemmas.List.{length-append, length-map, length-take-le, map-append, take_all, take_more}
use Rattle.std.proofs.lemmas.List.Elements.{All-from_recursion}
use Rattle.std.proofs.lemmas.Option.{none-some, same_Some}
use Rattle.pm_layout.specs.declared.shape.Shape.{Shape}
use Rattle.pm_layout.specs.Areas.{word_of_generation}
use Rattle.pm_record.specs.declared.redo.Op.TheVariants.{Set}
use Rattle.pm_record.specs.declared.redo.Redo.{Redo}
use Rattle.pm_view.specs.Claims.{Claim, class, known, pictured}
use Rattle.pm_view.specs.Entries.{Entry}
use Rattle.pm_view.specs.Log.{Log, Open, place_at}
use Rattle.pm_view.specs.Places.{Place, RootWord}
use Rattle.pm_view.specs.View.{View, runs_one}
use Rattle.pm_view.specs.Views.{after_all}
use Rattle.pm_view.specs.Steps.{Step}
use Rattle.pm_world.specs.Lawful.{EntersAt, EntersWord, KeepsRoot, place_in}
use Rattle.pm_world.specs.Lanes.{all_held}
use Rattle.pm_world.specs.States.{root_line}
use Rattle.pm_world.specs.Logs.{AreWhole, EntryOf, ends_with}
use Rattle.pm_world.proofs.PlacesAt.{is_at}
use Rattle.pm_plan.specs.Plans.{Ready, in_turn, persists_all, repeated}
use Rattle.pm_plan.proofs.Going.{Goes, goes_repeated, goes_then}
use Rattle.pm_redo.specs.Entries.{ending, entry_at, logged_entry, no_entry}
use Rattle.pm_redo.specs.Plans.{ends_entries, writes_entries, writes_log, writes_pair, writes_pairs}
use Rattle.pm_redo.specs.Stages.{HasLog, CanEnter, CanLog, IsLogged, IsOfPlace}
use Rattle.pm_redo.proofs.EntriesApplied.{inside_pool}
use Rattle.pm_redo.proofs.Plans.{at_index, goes_persist}
use Rattle.pm_redo.proofs.EntryPairs.{CanPut, Entered, Entering, now, pair_goes, stays}
use Rattle.pm_plan.proofs.AreaParts.{no_place}

module _ (v : View) (given : List Redo) (can : CanLog v given) where
  abbrev shape : Shape
  shape = v.fixed.shape

  abbrev lane : ℕ
  lane = v.fixed.lane

  abbrev end_ : Entry
  end_ = ends_with shape lane v.log.generation

  abbrev front : List Entry
  front = map (logged_entry v) given

  -- ---- each of the entries may be stored
  can_put : (e : Redo) → CanEnter v e → CanPut v e
  can_put e is = record {
    may = subst (EntersWord v (e.place / 8) e.op e.value) (sym is.at) is.may;
    gives = subst (λ o. IfSome o (λ p. EntryOf p e.op e.value)) (sym is.at) is.gives;
    aligned = is.aligned;
    low = (let inside = inside_pool shape (class v.claims) (e.place / 8) is.place
        (is_at shape (class v.claims) (e.place / 8) is.place is.at) in let l = can.lanes in let z =
        can.zones in omega (arith, inside, l, z));
    small = is.small;
  }

  back : 8 * word_of_generation shape lane / 8 ≡ word_of_generation shape lane
  back = omega arith

  nowhere : place_in v (8 * word_of_generation shape lane / 8) ≡ None
  nowhere = ap (place_at shape (class v.claims)) back ∙ no_place shape (class v.claims) lane
      can.lane

  can_end : CanPut v (ending shape lane v.log.generation)
  can_end = record {
    may = subst (EntersWord v (8 * word_of_generation shape lane / 8) Set (v.log.generation + 1))
        (sym nowhere) (back, refl, refl);
    gives = subst (λ o. IfSome o (λ p. EntryOf p Set (v.log.generation + 1))) (sym nowhere) tt;
    aligned = omega arith;
    low = (let a = can.lane in let l = can.lanes in omega (arith, a, l));
    small = (let b = can.below in omega (arith, b));
  }

  ended_as : logged_entry v (ending shape lane v.log.generation) ≡ end_
  ended_as = ap (λ w. with_place w (place_in v (8 * word_of_generation shape lane / 8))) back
      ∙ ap (with_place (word_of_generation shape lane)) nowhere
    where
      with_place : ℕ → Option Place → Entry
      with_place w o = record { word = w; place = o; op = Set; value = v.log.generation + 1 }

  -- ---- they are stored one after another
  abbrev At : List Entry → View → Type 0
  At es = Entering v can.below can.lane can.unmaking es []

  abbrev Upto : ℕ → View → Type 0
  Upto k = At (map (logged_entry v) (take k given))

  many : (k : ℕ) → k ≤ length given → length (map (logged_entry v) (take k given)) ≡ k
  many k low = length-map (take k given) (logged_entry v) ∙ length-take-le k given low

  next : (k : ℕ) → k < length given → Goes (Upto k) (writes_pair shape lane k (entry_at given k))
      (Upto (k + 1))
  next k low =
      let e : Redo = get_or given k no_entry in
      let long = many k (omega (arith, low)) in
      let goes = pair_goes v can.below can.lane can.unmaking e
      (can_put e (at_index (CanEnter v) given no_entry k can.each low))
      (map (logged_entry v) (take k given)) (let f = can.few in omega (arith, long, low, f)) in
      subst (λ n. Goes (Upto k) (writes_pair shape lane n e) (Upto (k + 1))) long
      (subst (λ es. Goes (Upto k)
      (writes_pair shape lane (length (map (logged_entry v) (take k given))) e) (At es))
      (sym (map-append (logged_entry v) (take k given) (e ∷ [])) ∙ ap (map (logged_entry v))
      (sym (take_more given k no_entry low))) goes)

  all_stored : Goes (Upto 0) (writes_pairs shape lane given) (At front)
  unfolding writes_pairs
  all_stored =
      subst (λ es. Goes (Upto 0) (repeated (λ i. writes_pair shape lane i (entry_at given i))
      (length given)) (At (map (logged_entry v) es))) (take_all (length given) given (omega arith))
      (goes_repeated Upto (λ i. writes_pair shape lane i (entry_at given i)) (length given) next)

  end_stored : Goes (At front)
      (writes_pair shape lane (length given) (ending shape lane v.log.generation))
      (At (front ++ end_ ∷ []))
  end_stored =
      let long = length-map given (logged_entry v) in
      subst (λ n. Goes (At front) (writes_pair shape lane n (ending shape lane v.log.generation))
      (At (front ++ end_ ∷ []))) long
      (subst (λ e. Goes (At front)
      (writes_pair shape lane (length front) (ending shape lane v.log.generation))
      (At (front ++ e ∷ []))) ended_as
      (pair_goes v can.below can.lane can.unmaking (ending shape lane v.log.generation) can_end
      front (let f = can.few in omega (arith, long, f))))

  -- ---- and made persistent
  abbrev entries : List Entry
  entries = front ++ end_ ∷ []

  abbrev HasEnded : View → Type 0
  HasEnded u = At entries u × (u.changes ≡ [])

  starts : Upto 0 v
  starts = (
    ap (λ (l : Log). record v { log = l }) (ap (λ ph. record v.log { phase = ph }) can.is_open
        ∙ (ap (λ es. record v.log { phase = Open; entries = es }) can.unentered
        ∙ ap (λ p. record v.log { phase = Open; entries = []; pair = p }) can.whole.1)),
    record {
      notes = [];
      are = refl;
      each = tt;
      classes = refl;
      locks = refl;
      rights = λ p how value r. r;
      knowns = λ y e. (refl, refl);
    },
  )

  -- ---- what that leaves
  abbrev Facts : List Claim → Type 0
  Facts = Entered v can.below can.lane can.unmaking

  abbrev logged : List Claim → List Step → View
  logged t calls = record v {
    claims = t;
    changes = [];
    calls = calls;
    log = record v.log { entries = entries };
  }

  of_place : (t : List Claim) (calls : List Step) → Facts t → (e : Redo) → CanEnter v e
      → IsOfPlace (logged t calls) (logged_entry v e)
  of_place t calls m e is = record {
    place = is.place;
    is = is.at;
    at = ap (λ cl. place_at shape cl (e.place / 8)) m.classes ∙ is.at;
    root = λ same. (subst (λ p. EntersAt v p e.op e.value) same is.may).1;
    small = is.small;
  }

  of_places : (t : List Claim) (calls : List Step) → Facts t → (es : List Redo)
      → AllByRecursion (CanEnter v) es → AllByRecursion (IsOfPlace (logged t calls))
      (map (logged_entry v) es)
  of_places t calls m [] all = tt
  of_places t calls m (e ∷ es) all = (of_place t calls m e all.0, of_places t calls m es all.1)

  all_placed : (es : List Redo) → AllByRecursion (CanEnter v) es
      → AllByRecursion (λ (e : Entry). e.place ≢ None) (map (logged_entry v) es)
  all_placed [] all = tt
  all_placed (e ∷ es) all = (
    (λ none. none-some all.0.place (sym none ∙ all.0.at)),
    all_placed es
        all.1,
  )

  -- the lane has locked the lines that are to guard the root word
  keeps_root : (t : List Claim) (calls : List Step) → Facts t → (e : Redo) → CanEnter v e
      → KeepsRoot (logged t calls) (logged_entry v e)
  keeps_root t calls m e is root =
      let enters : EntersAt v RootWord e.op e.value = subst (λ p. EntersAt v p e.op e.value)
      (same_Some is.place RootWord (sym is.at ∙ root)) is.may in (
        enters.1,
        is.small,
        subst (λ held. all_held held (0 ∷ root_line e.value) ≡ true)
            (sym m.locks) enters.2,
      )

  all_root : (t : List Claim) (calls : List Step) → Facts t → (es : List Redo) → AllByRecursion (CanEnter v)
      es → AllByRecursion (KeepsRoot (logged t calls)) (map (logged_entry v) es ++ end_ ∷ [])
  all_root t calls m [] all = ((λ root. absurd (none-some RootWord root)), tt)
  all_root t calls m (e ∷ es) all = (keeps_root t calls m e all.0, all_root t calls m es all.1)

  same_log : (t : List Claim) (calls : List Step) → now v can.below can.lane can.unmaking t [] calls entries
      [] ≡ logged t calls
  same_log t calls = ap (λ (l : Log). record v { claims = t; changes = []; calls = calls; log = l })
      (ap (λ ph. record v.log { phase = ph; entries = entries; pair = [] }) (sym can.is_open)
      ∙ ap (λ p. record v.log { entries = entries; pair = p }) (sym can.whole.1))

  is_logged : (u : View) → HasEnded u → IsLogged v given u
  is_logged u p =
      let f : Facts u.claims = p.0.1 in
      let same : u ≡ logged u.claims u.calls = p.0.0
      ∙ (ap (λ changes. now v can.below can.lane can.unmaking u.claims changes u.calls entries
      []) p.1 ∙ same_log u.claims u.calls) in
      record {
        same = same;
        noted = record { notes = f.notes; are = f.are; each = f.each };
        known = λ y not_entry. let k = f.knowns y not_entry in (
          ap (λ (z : View). known z.fixed.shape (runs_one z) u.claims y) same
              ∙ k.0,
          ap (λ (z : View). pictured z.fixed.shape u.claims y) same ∙ k.1,
        );
        whole = subst (λ (z : View). AreWhole z.fixed.shape z.fixed.lane z.log) (sym same)
            (record {
              front = front;
              are = refl;
              placed = All-from_recursion (λ (e : Entry). e.place ≢ None) front
                  (all_placed given can.each);
            });
        log_ = subst HasLog (sym same) (record {
          front = front;
          are = refl;
          each = of_places u.claims u.calls f given can.each;
          few = (let n = length-append front (end_ ∷ []) in let m = length-map given
              (logged_entry v) in let few = can.few in omega (arith, n, m, few));
          below = can.below;
          lane = can.lane;
        });
        root = subst (λ (z : View). All (KeepsRoot z) z.log.entries) (sym same)
            (All-from_recursion (KeepsRoot (logged u.claims u.calls)) entries
            (all_root u.claims u.calls f given can.each));
      }

  -- WRITING A LOG IS LAWFUL
  pub log_lawful : Ready v (writes_log given v)
      × IsLogged v given (after_all v (writes_log given v))
  unfolding writes_log writes_entries ends_entries
  log_lawful =
      let goes : Goes (Upto 0)
      (in_turn (writes_pairs shape lane given)
      (in_turn (writes_pair shape lane (length given) (ending shape lane v.log.generation))
      persists_all)) HasEnded
      = goes_then (Upto 0) (At front) HasEnded (writes_pairs shape lane given)
      (in_turn (writes_pair shape lane (length given) (ending shape lane v.log.generation))
      persists_all) all_stored
      (goes_then (At front) (At entries) HasEnded
      (writes_pair shape lane (length given) (ending shape lane v.log.generation)) persists_all
      end_stored
      (goes_persist (At entries) HasEnded (stays v can.below can.lane can.unmaking entries []))) in
      let t = goes v starts in (
        t.0,
        is_logged
            (after_all v (writes_entries shape lane given (ending shape lane v.log.generation) v))
            t.1,
      )
