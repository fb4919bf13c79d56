-- THE CALLS OF A LANE, one after another: what one call more leaves, and how they end.
use Rattle.std.proofs.Common.{◌≡◌, ◌≢◌, ℕ, zero, suc, Bool, true, false, All, List, [], ◌∷◌, ◌++◌, length, map, reverse, take, ◌%◌, ◌^◌, Result, Ok, Err, append_assoc, Option, Some, None, refl, sym, ap, ap₂, ◌∙◌, subst, append-nil, arith, get_or}
use Rattle.std.proofs.lemmas.Bool.{both_ways}
use Rattle.std.proofs.lemmas.List.{length-map, map-append, reverse-append}
use Rattle.std.proofs.lemmas.List.Elements.{All-nil, All-push}
use Rattle.std.proofs.Math.Seq.{take-append_seam}
use Rattle.std.specs.List.{AllZip}
use Rattle.pm_model.specs.History.{is_answered}
use Rattle.pm_model.specs.Inside.{Ran}
use Rattle.pm_model.specs.Shown.{IsFate, is_single}
use Rattle.pm_objects.specs.declared.calls.Operation.{Operation}
use Rattle.pm_objects.specs.declared.history.Fate.{Fate}
use Rattle.pm_objects.specs.declared.history.Fate.TheVariants as fate
use Rattle.pm_objects.specs.declared.refusal.Refusal.{Refusal}
use Rattle.pm_objects.specs.declared.refusal.Refusal.TheVariants as refusal
use Rattle.pm_script.specs.declared.script.ScriptLine.{ScriptLine}
use Rattle.pm_text.specs.declared.report.LaneEnd.{LaneEnd}
use Rattle.pm_text.specs.declared.report.LaneEnd.TheVariants as end
use Rattle.pm_view.specs.View.{Told, View}
use Rattle.pm_world.specs.declared.lane.Lane.{Lane}
use Rattle.pm_call.specs.Histories.{Ended, LaneHistory, nothing_told}
use Rattle.pm_call.specs.Positions.{Position, position_of, resting}
use Rattle.pm_call.specs.Standing.{StandsWith}
use Rattle.pm_call.specs.Unwritten.{is_adding_in}
use Rattle.pm_calls.specs.declared.names.Names.{Names}
use Rattle.pm_action.specs.Outside.{Finished, FinishedSo}
use Rattle.pm_action.specs.Standing.{FinishedLanesHaveFacts}
use Rattle.pm_exec.specs.Answers.{AddsRange, AreFirst, IsAnswer, IsSpent, MayBeKeptOrLost, lines_of, rans_of}
use Rattle.pm_exec.specs.Running.{CallCame, CallsCame, Closed, RestsWith, with_ended}
use Rattle.pm_exec.specs.declared.answer.Answer.{Answer}
use Rattle.pm_exec.specs.declared.call_end.CallEnd.TheVariants as ends
use Rattle.pm_exec.proofs.Spent.{rest_closed}

-- these calls were answered, and the lane, which made none before, is between two calls
pub record CallsMade {M : Type 0} (at : M → View → Type 0) (lane : Lane M) (names : Names)
    (number : ℕ) (calls : List (List ScriptLine)) (answers : List Answer) : Type 0 where
  pub done : List Ended
  pub rests : RestsWith at lane
      (record { lane = number; done = reverse done; call = []; within = None })
  pub lines : map lines_of answers ≡ calls
  pub shown : AllZip (IsAnswer names number) answers done
  pub answered : All (λ (a : Answer). is_answered a.fate ≡ true) answers

-- two lists that agree, with one more each
zip_push : {A B : Type 0} (R : A → B → Type 0) (xs : List A) (ys : List B) (x : A) (y : B)
    → AllZip R xs ys → R x y → AllZip R (xs ++ x ∷ []) (ys ++ y ∷ [])
zip_push R [] [] x y h r = (r, tt)
zip_push R [] (b ∷ ys) x y h r = absurd h
zip_push R (a ∷ xs) [] x y h r = absurd h
zip_push R (a ∷ xs) (b ∷ ys) x y h r = (h.0, zip_push R xs ys x y h.1 r)

taken : (all : List Answer) (calls more : List (List ScriptLine)) → map lines_of all ++ more ≡ calls
    → map lines_of all ≡ take (length all) calls
taken all calls more is =
    sym (take-append_seam (map lines_of all) more)
    ∙ (ap (λ (k : ℕ). take k (map lines_of all ++ more)) (length-map all lines_of)
    ∙ ap (λ (l : List (List ScriptLine)). take (length all) l) is)

-- what follows those that were answered
item_after : {X : Type 0} (xs ys : List X) (y d : X) (n : ℕ) → n ≡ length xs → get_or (xs ++ y ∷ ys) n d ≡ y
item_after [] ys y d zero is = refl
item_after [] ys y d (suc n) is = absurd (omega (arith, is))
item_after (x ∷ xs) ys y d zero is = absurd (omega (arith, is))
item_after (x ∷ xs) ys y d (suc n) is = item_after xs ys y d n (omega (arith, is))

next_is : (answers : List Answer) (lines : List (List ScriptLine)) (line : List ScriptLine) (more : List (List ScriptLine)) → map lines_of answers ≡ lines
    → (calls : List (List ScriptLine)) → lines ++ line ∷ more ≡ calls → get_or calls (length answers) [] ≡ line
next_is answers lines line more are calls parts =
    ap (λ (cs : List (List ScriptLine)). get_or cs (length answers) []) (sym parts)
    ∙ item_after lines more line [] (length answers) (sym (length-map answers lines_of) ∙ ap (λ (l : List (List ScriptLine)). length l) are)

-- a call that may be lost may be kept
kept_too : (single : Bool) (rans : List Ran) → IsFate single rans fate.Lost → IsFate single rans fate.Kept
kept_too true rans lost = lost
kept_too false rans lost = tt

either_of : (names : Names) (n : ℕ) (a : Answer) (d : Ended) → a.fate ≡ fate.Lost
    → IsAnswer names n a d → MayBeKeptOrLost d
either_of names n a d is shows =
    let lost : IsFate (is_single (rans_of d.call)) (rans_of d.call) fate.Lost =
    subst (λ (f : Fate). IsFate (is_single (rans_of d.call)) (rans_of d.call) f) is shows.fate in
    (kept_too (is_single (rans_of d.call)) (rans_of d.call) lost, lost)

some_is : (a b : Answer) → Some a ≡ Some b → a ≡ b
some_is a b is = ap (λ (o : Option Answer). MatchOr o) is where
  MatchOr : Option Answer → Answer
  MatchOr None = a
  MatchOr (Some x) = x

abbrev between : ℕ → List Ended → LaneHistory
between n done = record { lane = n; done = done; call = []; within = None }

module _ {M : Type 0} (at : M → View → Type 0) (names : Names) where
  pub none_made : (lane : Lane M) (n : ℕ) (answers : List Answer) → answers ≡ []
      → RestsWith at lane (nothing_told n) → CallsMade at lane names n [] answers
  none_made lane n answers empty rests = record {
    done = [];
    rests = rests;
    lines = ap (λ (said : List Answer). map lines_of said) empty;
    shown = subst (λ (said : List Answer). AllZip (IsAnswer names n) said []) (sym empty) tt;
    answered = subst (λ (said : List Answer). All (λ (a : Answer). is_answered a.fate ≡ true) said) (sym empty)
        (All-nil (λ (a : Answer). is_answered a.fate ≡ true));
  }

  pushed : (n : ℕ) (done : List Ended) (d : Ended) → with_ended d (between n (reverse done))
      ≡ between n (reverse (done ++ d ∷ []))
  pushed n done d = ap (between n) (sym (reverse-append done (d ∷ [])))

  module _ (old new : Lane M) (lines : List ScriptLine) where
    pub one_more_rests : (a : Answer) → ((h : LaneHistory) → RestsWith at old h → CallCame at new names h lines (ends.Answered a))
        → (h : LaneHistory) × RestsWith at old h → (h : LaneHistory) × RestsWith at new h
    one_more_rests a came (h, rests) = let c = came h rests in (with_ended c.0 h, c.1)

    pub one_more : (n : ℕ) (calls : List (List ScriptLine)) (answers : List Answer) (a : Answer)
        → ((h : LaneHistory) → RestsWith at old h → CallCame at new names h lines (ends.Answered a))
        → CallsMade at old names n calls answers → CallsMade at new names n (calls ++ lines ∷ []) (answers ++ a ∷ [])
    one_more n calls answers a came made = let c = came _ made.rests in record {
      done = made.done ++ c.0 ∷ [];
      rests = subst (λ (h : LaneHistory). RestsWith at new h) (pushed n made.done c.0) c.1;
      lines = map-append lines_of answers (a ∷ []) ∙ ap₂ (λ (xs : List (List ScriptLine)) (x : List ScriptLine). xs ++ x ∷ []) made.lines c.2;
      shown = zip_push (IsAnswer names n) answers made.done a c.0 made.shown c.3;
      answered = All-push (λ (b : Answer). is_answered b.fate ≡ true) answers a made.answered c.4;
    }

  -- ---- HOW THEY END

  stopped_not : (lane : Lane M) → position_of lane ≡ resting → lane.stopped ≡ true → ⊥
  stopped_not lane here is =
      let clash : true ≡ false = sym is ∙ ap (λ (p : Position). p.stopped) here in cc

  -- no answer is missing
  all_told : (lane : Lane M) (n : ℕ) (calls lines more : List (List ScriptLine)) (answers : List Answer) (done : List Ended) (call : List Told) (within : Option Operation) (e : LaneEnd)
      → StandsWith at lane (record { lane = n; done = reverse done; call = call; within = within })
      → (is_adding_in within ≡ true → AddsRange names (get_or calls (length answers) []))
      → AreFirst names (get_or calls (length answers) []) call within
      → map lines_of answers ≡ lines → lines ++ more ≡ calls → AllZip (IsAnswer names n) answers done
      → All (λ (a : Answer). is_answered a.fate ≡ true) answers
      → (lane.stopped ≡ true → lane.drawn ≡ None) → (lane.stopped ≡ false → position_of lane ≡ resting)
      → (e ≡ end.Ended → more ≡ []) → (lane.stopped ≡ false → (k : ℕ) → e ≢ end.Stopped k)
      → ((line : ℕ) → e ≡ end.Spent line → IsSpent at lane (record { lane = n; done = reverse done; call = call; within = within }))
      → CallsCame at lane names n calls answers None e
  all_told lane n calls lines more answers done call within e stands adds first are parts shown answered stopped going whole unstopped spent = record {
    done = done;
    call = call;
    within = within;
    stands = stands;
    adds = λ is. (refl, adds is);
    first = subst (λ (xs : List Answer). AreFirst names (get_or calls (length xs) []) call within) (sym (append-nil answers)) first;
    of_calls = taken (answers ++ []) calls more
        (ap (λ (said : List Answer). map lines_of said ++ more) (append-nil answers) ∙ (ap (λ (l : List (List ScriptLine)). l ++ more) are ∙ parts));
    shown = subst (λ (said : List Answer). AllZip (IsAnswer names n) said done) (sym (append-nil answers)) shown;
    answered = answered;
    either = λ a d none. absurd (let clash : None ≡ Some a = none in cc);
    stopped = stopped;
    going = λ g. (going g, refl);
    whole = λ ended. sym (length-map answers lines_of) ∙ (ap (λ (l : List (List ScriptLine)). length l) are
        ∙ (ap (λ (l : List (List ScriptLine)). length l) (sym (append-nil lines))
        ∙ (ap (λ (m : List (List ScriptLine)). length (lines ++ m)) (sym (whole ended)) ∙ ap (λ (l : List (List ScriptLine)). length l) parts)));
    unstopped = unstopped;
    spent = spent;
  }

  -- it is between two calls: all are made, or no number was left
  pub rests_after : (lane : Lane M) (n : ℕ) (calls lines more : List (List ScriptLine)) (answers : List Answer) (e : LaneEnd)
      → (made : CallsMade at lane names n lines answers) → lines ++ more ≡ calls
      → (e ≡ end.Ended → more ≡ []) → ((k : ℕ) → e ≢ end.Stopped k)
      → ((line : ℕ) → e ≡ end.Spent line → IsSpent at lane (between n (reverse made.done)))
      → CallsCame at lane names n calls answers None e
  rests_after lane n calls lines more answers e made parts whole unstopped spent =
      all_told lane n calls lines more answers made.done [] None e made.rests.0 (λ is. absurd (both_ways false refl is)) refl made.lines parts made.shown made.answered
      (λ is. absurd (stopped_not lane made.rests.1 is)) (λ g. made.rests.1) whole (λ g. unstopped) spent

  module _ (old new : Lane M) (line : List ScriptLine) (n : ℕ) (calls lines more : List (List ScriptLine)) (answers : List Answer)
      (made : CallsMade at old names n lines answers) where
    -- no number was left
    pub spent_after : (at_line : ℕ) → ((h : LaneHistory) → RestsWith at old h → CallCame at new names h line (ends.Spent at_line))
        → lines ++ more ≡ calls → CallsCame at new names n calls answers None (end.Spent at_line)
    spent_after at_line came parts =
        let c = came _ made.rests in
        rests_after new n calls lines more answers (end.Spent at_line)
        (record { done = made.done; rests = (c.stands, c.here); lines = made.lines; shown = made.shown; answered = made.answered })
        parts (λ is. absurd (let clash : end.Spent at_line ≡ end.Ended = is in cc)) (λ k is. let clash : end.Spent at_line ≡ end.Stopped k = is in cc)
        (λ line is. c)

    -- it stopped in this call
    pub stopped_after : (u : Option Answer) (k : ℕ) → ((h : LaneHistory) → RestsWith at old h → CallCame at new names h line (ends.Stopped u))
        → lines ++ line ∷ more ≡ calls → CallsCame at new names n calls answers u (end.Stopped k)
    stopped_after None k came parts =
        let c = came _ made.rests in
        all_told new n calls lines (line ∷ more) answers made.done c.0 c.1 (end.Stopped k) c.2
        (λ is. subst (AddsRange names) (sym (next_is answers lines line more made.lines calls parts)) (c.5 is))
        (subst (λ (ls : List ScriptLine). AreFirst names ls c.0 c.1) (sym (next_is answers lines line more made.lines calls parts)) c.6) made.lines parts made.shown made.answered
        (λ is. c.4) (λ g. absurd (let clash : true ≡ false = sym c.3 ∙ g in cc))
        (λ is. absurd (let clash : end.Stopped k ≡ end.Ended = is in cc))
        (λ g. absurd (let clash : true ≡ false = sym c.3 ∙ g in cc))
        (λ line is. absurd (let clash : end.Stopped k ≡ end.Spent line = is in cc))
    stopped_after (Some a) k came parts =
        let c = came _ made.rests in
        let is_lines = map-append lines_of answers (a ∷ []) ∙ ap₂ (λ (xs : List (List ScriptLine)) (x : List ScriptLine). xs ++ x ∷ []) made.lines c.4 in
        record {
          done = made.done ++ c.0 ∷ [];
          call = [];
          within = None;
          stands = subst (λ (h : LaneHistory). StandsWith at new h) (pushed n made.done c.0) c.1;
          adds = λ is. absurd (both_ways false refl is);
          first = refl;
          of_calls = taken (answers ++ a ∷ []) calls more
              (ap (λ (l : List (List ScriptLine)). l ++ more) is_lines ∙ (append_assoc lines (line ∷ []) more ∙ parts));
          shown = zip_push (IsAnswer names n) answers made.done a c.0 made.shown c.5;
          answered = made.answered;
          either = λ b d is shows. either_of names n b d (ap (λ (x : Answer). x.fate) (sym (some_is a b is)) ∙ c.6) shows;
          stopped = λ is. c.3;
          going = λ g. absurd (let clash : true ≡ false = sym c.2 ∙ g in cc);
          whole = λ is. absurd (let clash : end.Stopped k ≡ end.Ended = is in cc);
          unstopped = λ g. absurd (let clash : true ≡ false = sym c.2 ∙ g in cc);
          spent = λ line is. absurd (let clash : end.Stopped k ≡ end.Spent line = is in cc);
        }

-- ---- THE LANE IS CLOSED

module _ {M : Type 0} (at : M → View → Type 0) (old new : Lane M) (result : Result (Unit {0}) Refusal)
    (did : Finished at old new result) where
  pub going_ok : old.stopped ≡ false → result ≡ Ok tt
  unfolding Finished
  going_ok g =
      let d : FinishedSo false at old new result = subst (λ (b : Bool). FinishedSo b at old new result) g did in d.0

  pub stopped_err : old.stopped ≡ true → result ≡ Err refusal.Stopped
  unfolding Finished
  stopped_err s =
      let d : FinishedSo true at old new result = subst (λ (b : Bool). FinishedSo b at old new result) s did in d.0

  same_lane : old.stopped ≡ true → new ≡ old
  unfolding Finished
  same_lane s =
      let d : FinishedSo true at old new result = subst (λ (b : Bool). FinishedSo b at old new result) s did in d.1

  pub closed : FinishedLanesHaveFacts at → (h : LaneHistory) → StandsWith at old h
      → (old.stopped ≡ false → position_of old ≡ resting) → (before e : LaneEnd) → (old.stopped ≡ false → e ≡ before)
      → (old.stopped ≡ true → (v : View) → at new.memory v → e ≡ end.Stopped (length v.calls % 2 ^ 64))
      → Closed at old new h before e
  closed known h stands here before e going stopped = by old.stopped refl where
    level : old.stopped ≡ false → old.level ≡ 0
    level g = ap (λ (p : Position). p.level) (here g)

    by : (b : Bool) → old.stopped ≡ b → Closed at old new h before e
    by true s =
        let x = known result old new h stands level did in record {
          stops = x.0;
          done = x.1;
          lane = x.2;
          ends = x.3;
          going = going;
          stopped = λ is. stopped is x.0.view x.0.seen;
          due = λ is. x.0.due (ap (λ (lane : Lane M). lane.stopped) (same_lane is) ∙ is);
          unwritten = x.4;
          plans = x.5;
        }
    by false g =
        let b = stands.between g (level g) in
        let c = rest_closed at old new result did g h b.0.standing b.0.rests b.0.between b.1 in record {
          stops = c.stops;
          done = c.done;
          lane = c.lane;
          ends = c.ends;
          going = going;
          stopped = λ s. absurd (both_ways old.stopped g s);
          due = λ s. absurd (both_ways old.stopped g s);
          unwritten = λ is. c.unwritten;
          plans = c.plans;
        }
