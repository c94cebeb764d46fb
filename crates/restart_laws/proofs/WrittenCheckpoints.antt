-- Each checkpoint that a run writes is that of a cycle, and the last that is written of it.
use Rattle.std.proofs.Common.{◌≡◌, ℕ, zero, suc, false, true, Bool, ◌+◌, ◌-◌, ◌<◌, ◌≤◌, List, [], ◌∷◌, ◌++◌, Option, Some, None, drop, length, refl, sym, ap, ◌∙◌, subst, append_assoc, append-nil, arith}
use Rattle.std.specs.Prelude.{slice_index_or}
use Rattle.std.proofs.lemmas.List.{append_cancel_left, length-append}
use Rattle.block_index.specs.Places.{Cube}
use Rattle.block_fields.specs.States.{State}
use Rattle.amount_ledger.specs.Ledgers.{LedgerState}
use Rattle.checkpoint.specs.Reading.{AreAccepted}
use Rattle.checkpoint.specs.Spelling.{bytes_of}
use Rattle.mesh_output.specs.Lines.{cycle_line, header_line, phase_line}
use Rattle.params_check.specs.Parameters.{IsParameters, Parameters}
use Rattle.params_check.proofs.NoFaults.{accepted-limits}
use Rattle.run_core.specs.declared.fault.RunFault.{RunFault}
use Rattle.run_core.specs.Courses.{RunState, Told, cycle_ended, is_due, phase_ended, whole}
use Rattle.run_core.specs.Runs.{RunEnds, Runs, after_all, at_limit, told_phase}
use Rattle.run_report.specs.Actions.{Action, actions_of, closing_piece, due_at, fields_file, file, kept_state, later_actions, mesh_file, numbered_pieces, piece, report_actions, run_actions, state_file, told_field, where_due}
use Rattle.run_report.specs.FileNames.{fields_name, mesh_name, state_name}
use Rattle.run_report.proofs.RunActions.{report_actions-append}
use Rattle.restart_laws.specs.ResumedRuns.{GoesOnFrom, WritesOnAlike}
use Rattle.restart_laws.proofs.ToldCycles.{StepTells, alone, start-tells, step-tells, with_cycle}
use Rattle.restart_laws.proofs.WritingOn.{before_checkpoint, checkpoint_due, cycle-parts, goes-on-from, writes-on}

-- ---- where an action stands in two lists

data StandsIn (xs ys before later : List Action) (it : Action) : Type 0 where
  in_first : (more : List Action) → xs ≡ before ++ it ∷ more → later ≡ more ++ ys → StandsIn xs ys before later it
  in_second : (more : List Action) → before ≡ xs ++ more → ys ≡ more ++ it ∷ later → StandsIn xs ys before later it

head-same : (x y : Action) (xs ys : List Action) → x ∷ xs ≡ y ∷ ys → x ≡ y
head-same x y xs ys e = ap (λ (l : List Action). slice_index_or l 0 x) e

tail-same : (x y : Action) (xs ys : List Action) → x ∷ xs ≡ y ∷ ys → xs ≡ ys
tail-same x y xs ys e = ap (λ (l : List Action). drop 1 l) e

one-more : (x y : Action) (xs ys before later : List Action) (it : Action) → x ≡ y → StandsIn xs ys before later it → StandsIn (x ∷ xs) ys (y ∷ before) later it
one-more x y xs ys before later it same (in_first more is left) = in_first more (λ i. same i ∷ is i) left
one-more x y xs ys before later it same (in_second more is left) = in_second more (λ i. sym same i ∷ is i) left

stands-in : (xs ys before later : List Action) (it : Action) → xs ++ ys ≡ before ++ it ∷ later → StandsIn xs ys before later it
stands-in [] ys before later it e = in_second before refl e
stands-in (x ∷ xs) ys [] later it e =
    let here = head-same x it (xs ++ ys) later e in
    let rest = tail-same x it (xs ++ ys) later e in
    in_first xs (λ i. here i ∷ xs) (sym rest)
stands-in (x ∷ xs) ys (b ∷ before) later it e =
    one-more x b xs ys before later it (head-same x b (xs ++ ys) (before ++ it ∷ later) e)
    (stands-in xs ys before later it (tail-same x b (xs ++ ys) (before ++ it ∷ later) e))

-- ---- actions that write no checkpoint

abbrev WritesNone : Action → Type 0
WritesNone (piece bytes) = Unit {0}
WritesNone (file name bytes) = (cycle : ℕ) → name ≡ state_name cycle → ⊥

abbrev WriteNone : List Action → Type 0
WriteNone [] = Unit {0}
WriteNone (x ∷ xs) = WritesNone x × WriteNone xs

none-append : (xs ys : List Action) → WriteNone xs → WriteNone ys → WriteNone (xs ++ ys)
none-append [] ys hx hy = hy
none-append (x ∷ xs) ys hx hy = (hx.0, none-append xs ys hx.1 hy)

none-there : (xs before later : List Action) (cycle : ℕ) (bytes : List ℕ) → WriteNone xs → xs ≡ before ++ file (state_name cycle) bytes ∷ later → ⊥
none-there [] before later cycle bytes h e =
    let a = ap length e in
    let b = length-append before (file (state_name cycle) bytes ∷ later) in
    omega (arith, a, b)
none-there (x ∷ xs) [] later cycle bytes h e =
    let here : x ≡ file (state_name cycle) bytes = head-same x (file (state_name cycle) bytes) xs later e in
    let same : WritesNone (file (state_name cycle) bytes) = subst WritesNone here h.0 in
    same cycle refl
none-there (x ∷ xs) (b ∷ before) later cycle bytes h e =
    none-there xs before later cycle bytes h.1 (tail-same x b xs (before ++ file (state_name cycle) bytes ∷ later) e)

none-numbered : (line : ℕ → List ℕ → List ℕ) (k : ℕ) (names : List (List ℕ)) → WriteNone (numbered_pieces line k names)
none-numbered line k [] = tt
none-numbered line k (x ∷ xs) = (tt, none-numbered line (k + 1) xs)

none-due : (due : Bool) (action : Action) → WritesNone action → WriteNone (where_due due action)
none-due true action h = (h, tt)
none-due false action h = tt

-- two files with their bytes
file-names : (a b c d : List ℕ) → file a c ≡ file b d → a ≡ b
file-names a b c d e = cc

file-bytes : (a b c d : List ℕ) → file a c ≡ file b d → c ≡ d
file-bytes a b c d e = cc

-- no two kinds of files have a name in common
abbrev KindsDiffer : Type 0
KindsDiffer = (a b : ℕ) → (mesh_name a ≡ fields_name b → ⊥) × (fields_name a ≡ state_name b → ⊥) × (state_name a ≡ mesh_name b → ⊥)

-- a checkpoint's name tells its cycle
abbrev NamesTell : Type 0
NamesTell = (a b : ℕ) → a ≤ 9999 → b ≤ 9999 → state_name a ≡ state_name b → a ≡ b

module _ (kinds : KindsDiffer) (names : NamesTell) (p : Parameters) where
  none-before : (cycle : ℕ) (s : State) (ledger : LedgerState) → WriteNone (before_checkpoint p cycle s ledger)
  none-before cycle s ledger =
      let due = due_at p cycle in
      let mesh : WritesNone (mesh_file cycle s) = λ other same. (kinds other cycle).2 (sym same) in
      let fields : WritesNone (fields_file cycle s) = λ other same. (kinds cycle other).1 same in
      none-append (piece (cycle_line cycle (length s.leaves)) ∷ numbered_pieces (told_field s ledger) 0 p.fields)
      (where_due due.mesh (mesh_file cycle s) ++ where_due due.fields (fields_file cycle s))
      (tt, none-numbered (told_field s ledger) 0 p.fields)
      (none-append (where_due due.mesh (mesh_file cycle s)) (where_due due.fields (fields_file cycle s))
      (none-due due.mesh (mesh_file cycle s) mesh) (none-due due.fields (fields_file cycle s) fields))

  -- ---- a checkpoint among what is written of a cycle

  module _ (cycle : ℕ) (bytes : List ℕ) (few : cycle ≤ 9999) where
    abbrev it : Action
    it = file (state_name cycle) bytes

    -- it is the one of that cycle, and the last
    record IsLast (other : ℕ) (s : State) (ledger : LedgerState) (later : List Action) : Type 0 where
      same : cycle ≡ other
      is : bytes ≡ bytes_of (kept_state p other s ledger)
      none : later ≡ []

    only-due : (due : Bool) (other : ℕ) (s : State) (ledger : LedgerState) (more later : List Action) → other ≤ 9999
        → where_due due (state_file p other s ledger) ≡ more ++ it ∷ later → IsLast other s ledger later
    only-due false other s ledger more later small e = absurd (none-there [] more later cycle bytes tt e)
    only-due true other s ledger [] later small e =
        let one : state_file p other s ledger ≡ it = head-same (state_file p other s ledger) it [] later e in
        record {
          same = names cycle other few small (sym (file-names (state_name other) (state_name cycle) (bytes_of (kept_state p other s ledger)) bytes one));
          is = sym (file-bytes (state_name other) (state_name cycle) (bytes_of (kept_state p other s ledger)) bytes one);
          none = sym (tail-same (state_file p other s ledger) it [] later e);
        }
    only-due true other s ledger (m ∷ more) later small e =
        absurd (none-there [] more later cycle bytes tt (tail-same (state_file p other s ledger) m [] (more ++ it ∷ later) e))

    -- it stands in what was written before, or is the checkpoint of the cycle that ended
    data Written (front before later : List Action) (other : ℕ) (s : State) (ledger : LedgerState) : Type 0 where
      earlier : (more : List Action) → front ≡ before ++ it ∷ more → Written front before later other s ledger
      now : IsLast other s ledger later → Written front before later other s ledger

    cycle-written : (front before later : List Action) (other : ℕ) (s : State) (ledger : LedgerState) → other ≤ 9999
        → front ++ actions_of p (cycle_ended other s ledger) ≡ before ++ it ∷ later → Written front before later other s ledger
    cycle-written front before later other s ledger small e =
        let parts : front ++ (before_checkpoint p other s ledger ++ checkpoint_due p other s ledger) ≡ before ++ it ∷ later =
        ap (λ (l : List Action). front ++ l) (sym (cycle-parts p other s ledger)) ∙ e in
        at (stands-in front (before_checkpoint p other s ledger ++ checkpoint_due p other s ledger) before later it parts)
      where
        last : (more : List Action) → StandsIn (before_checkpoint p other s ledger) (checkpoint_due p other s ledger) more later it → Written front before later other s ledger
        last more (in_first some is left) = absurd (none-there (before_checkpoint p other s ledger) more some cycle bytes (none-before other s ledger) is)
        last more (in_second some is left) = now (only-due (is_due p.checkpoint_every other) other s ledger some later small left)

        at : StandsIn front (before_checkpoint p other s ledger ++ checkpoint_due p other s ledger) before later it → Written front before later other s ledger
        at (in_first more is left) = earlier more is
        at (in_second more is left) = last more (stands-in (before_checkpoint p other s ledger) (checkpoint_due p other s ledger) more later it left)

    -- ---- a checkpoint among what is written of a run

    record Found (phases : ℕ) (before : List Action) : Type 0 where
      here : RunState
      within : p.rounds + cycle ≤ phases
      runs : Runs (whole p) (p.rounds + cycle) here
      is : bytes ≡ bytes_of (kept_state p cycle here.state here.ledger)
      wrote : report_actions p here.told ≡ before ++ it ∷ []

    found-later : (phases : ℕ) (before : List Action) → Found phases before → Found (suc phases) before
    found-later phases before f =
        let within = f.within in
        record { here = f.here; within = omega (arith, within); runs = f.runs; is = f.is; wrote = f.wrote }

    found-now : (phases other : ℕ) (t : RunState) (before later : List Action) → phases ≡ p.rounds + other → Runs (whole p) phases t
        → report_actions p t.told ≡ before ++ it ∷ later → IsLast other t.state t.ledger later → Found phases before
    found-now phases other t before later number runs all last =
        let same : phases ≡ p.rounds + cycle = let e = last.same in omega (arith, number, e) in
        record {
          here = t;
          within = omega (arith, same);
          runs = subst (λ k. Runs (whole p) k t) same runs;
          is = last.is ∙ ap (λ k. bytes_of (kept_state p k t.state t.ledger)) (sym last.same);
          wrote = all ∙ ap (λ (l : List Action). before ++ it ∷ l) last.none;
        }

    -- what a phase adds
    module _ (phases phase : ℕ) (t : RunState) (front : List Told) (before : List Action) (number : phase ≡ phases) (small : phases ≤ p.rounds + p.cycles) (most : p.cycles ≤ 9999)
        (runs : Runs (whole p) phases t) (old : (more : List Action) → report_actions p front ≡ before ++ it ∷ more → Found phases before) where
      step-found : (later : List Action) → report_actions p t.told ≡ before ++ it ∷ later → StepTells p phase front t → Found phases before
      step-found later e (alone less told) = old later (sym (ap (report_actions p) told) ∙ e)
      step-found later e (with_cycle other is told) =
          let last : Told = cycle_ended other t.state t.ledger in
          let all : report_actions p front ++ actions_of p last ≡ before ++ it ∷ later =
          ap (λ (l : List Action). report_actions p front ++ l) (sym (append-nil (actions_of p last)))
          ∙ sym (report_actions-append p front (last ∷ []))
          ∙ sym (ap (report_actions p) told)
          ∙ e in
          by-place later e other (omega (arith, is, number)) (cycle-written (report_actions p front) before later other t.state t.ledger (omega (arith, is, number, small, most)) all)
        where
          by-place : (later : List Action) → report_actions p t.told ≡ before ++ it ∷ later → (other : ℕ) → phases ≡ p.rounds + other
              → Written (report_actions p front) before later other t.state t.ledger → Found phases before
          by-place later e other is (earlier more e2) = old more e2
          by-place later e other is (now l) = found-now phases other t before later is runs e l

    -- the adapt phase's line isn't one
    not-phase : (s : RunState) (phase leaves : ℕ) (before more : List Action) → report_actions p (s.told ++ phase_ended phase leaves ∷ []) ≡ before ++ it ∷ more
        → StandsIn (report_actions p s.told) (piece (phase_line phase leaves) ∷ []) before more it
    not-phase s phase leaves before more e =
        stands-in (report_actions p s.told) (piece (phase_line phase leaves) ∷ []) before more it (sym (report_actions-append p s.told (phase_ended phase leaves ∷ [])) ∙ e)

    found : (most : p.cycles ≤ 9999) (phases : ℕ) (t : RunState) (before later : List Action) → phases ≤ p.rounds + p.cycles → Runs (whole p) phases t
        → report_actions p t.told ≡ before ++ it ∷ later → Found phases before
    found most zero t before later small runs e =
        step-found zero zero t [] before refl small most runs (λ more none. absurd (none-there [] before more cycle bytes tt none)) later e
        (subst (λ (r : RunState). StepTells p 0 [] r) (sym runs) (start-tells p))
    found most (suc phases) t before later small runs e =
        let s : RunState = runs.0 in
        let phase : ℕ = 0 + suc phases in
        let between : State = runs.2.between in
        step-found (suc phases) phase t (told_phase s phase between) before (omega arith) small most runs
        (λ more some. in-front s phase (length between.leaves) (λ m is. found-later phases before (found most phases s before m (omega (arith, small)) runs.1 is))
        more (not-phase s phase (length between.leaves) before more some))
        later e (step-tells p phase s t runs.2)
      where
        in-front : (s : RunState) (phase leaves : ℕ) → ((more : List Action) → report_actions p s.told ≡ before ++ it ∷ more → Found (suc phases) before)
            → (more : List Action) → StandsIn (report_actions p s.told) (piece (phase_line phase leaves) ∷ []) before more it → Found (suc phases) before
        in-front s phase leaves old more (in_first some is left) = old some is
        in-front s phase leaves old more (in_second some is left) =
            absurd (none-there (piece (phase_line phase leaves) ∷ []) some more cycle bytes (tt, tt) left)

    -- ---- a checkpoint among all that is written

    -- behind the header, among what is told
    record IsTold (told : List Told) (before : List Action) : Type 0 where
      front : List Action
      more : List Action
      is : before ≡ piece header_line ∷ front
      report : report_actions p told ≡ front ++ it ∷ more

    behind-header : (told : List Told) (leaves : List Cube) (limit : Option RunFault) (front before later : List Action) → before ≡ piece header_line ∷ front
        → later_actions p told leaves limit ≡ front ++ it ∷ later → IsTold told before
    behind-header told leaves (Some fault) front before later is e = record { front = front; more = later; is = is; report = e }
    behind-header told leaves None front before later is e = unclosed (stands-in (report_actions p told) (closing_piece leaves ∷ []) front later it e)
      where
        unclosed : StandsIn (report_actions p told) (closing_piece leaves ∷ []) front later it → IsTold told before
        unclosed (in_first more e2 left) = record { front = front; more = more; is = is; report = e2 }
        unclosed (in_second more e2 left) = absurd (none-there (closing_piece leaves ∷ []) more later cycle bytes (tt, tt) left)

    is-told : (told : List Told) (leaves : List Cube) (limit : Option RunFault) (before later : List Action) → run_actions p told leaves limit ≡ before ++ it ∷ later
        → IsTold told before
    is-told told leaves limit [] later e =
        let other : WritesNone it = subst WritesNone (head-same (piece header_line) it (later_actions p told leaves limit) later e) tt in
        absurd (other cycle refl)
    is-told told leaves limit (b ∷ front) later e =
        let here = head-same (piece header_line) b (later_actions p told leaves limit) (front ++ it ∷ later) e in
        behind-header told leaves limit front (b ∷ front) later (λ i. sym here i ∷ front)
        (tail-same (piece header_line) b (later_actions p told leaves limit) (front ++ it ∷ later) e)

    module _ (a : AreAccepted p) (all : RunState) (limit : Option RunFault) (ends : RunEnds (whole p) all limit) (before later : List Action)
        (wrote : run_actions p all.told all.state.leaves limit ≡ before ++ it ∷ later) where
      limits : IsParameters p
      limits = accepted-limits a.groups p a.limits a.accepted

      told : IsTold all.told before
      told = is-told all.told all.state.leaves limit before later wrote

      from-found : (phases : ℕ) → phases ≤ p.rounds + p.cycles → Found phases told.front → GoesOnFrom p cycle bytes all limit later
      from-found phases small f =
          let inside : cycle ≤ p.cycles = let w = f.within in omega (arith, w, small) in
          let on : WritesOnAlike p cycle f.here all limit = writes-on p limits cycle f.here all limit inside f.runs ends in
          let front : List Action = told.front ++ it ∷ [] in
          let header : Action = piece header_line in
          let one : run_actions p all.told all.state.leaves limit ≡ (header ∷ front) ++ on.later =
          on.whole_run ∙ ap (λ (l : List Action). (header ∷ l) ++ on.later) f.wrote in
          let other : run_actions p all.told all.state.leaves limit ≡ (header ∷ front) ++ later =
          wrote ∙ ap (λ (l : List Action). l ++ it ∷ later) told.is ∙ sym (append_assoc (header ∷ told.front) (it ∷ []) later) in
          let same : on.later ≡ later = append_cancel_left (header ∷ front) on.later later (sym one ∙ other) in
          let kept : GoesOnFrom p cycle (bytes_of (kept_state p cycle f.here.state f.here.ledger)) all limit on.later =
          goes-on-from p cycle f.here all limit on.later a inside f.runs on.resumed_run in
          subst (λ (b : List ℕ). GoesOnFrom p cycle b all limit later) (sym f.is)
          (subst (λ (l : List Action). GoesOnFrom p cycle (bytes_of (kept_state p cycle f.here.state f.here.ledger)) all limit l) same kept)

      most-cycles : p.cycles ≤ 9999
      most-cycles = let few_cycles = limits.cycles in omega (arith, few_cycles)

      from-end : RunEnds (whole p) all limit → GoesOnFrom p cycle bytes all limit later
      from-end (after_all runs is) =
          let small : p.rounds + p.cycles - 0 ≤ p.rounds + p.cycles = omega arith in
          from-found (p.rounds + p.cycles - 0) small (found most-cycles (p.rounds + p.cycles - 0) all told.front told.more small runs told.report)
      from-end (at_limit phases f below runs passes is) =
          let under : phases < p.rounds + p.cycles - 0 = below in
          let small : phases ≤ p.rounds + p.cycles = omega (arith, under) in
          from-found phases small (found most-cycles phases all told.front told.more small runs told.report)

      pub written-goes-on : GoesOnFrom p cycle bytes all limit later
      written-goes-on = from-end ends
