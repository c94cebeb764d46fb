-- How a command ends, from how its steps end.
use Rattle.std.proofs.Common.{◌≡◌, ℕ, Bool, List, [], ◌∷◌, Option, Some, None, Result, Ok, Err, refl, sym, subst, ◌∙◌, inl, inr}
use Rattle.std.specs.Prelude.{IfErr, IfOk, IsErrAnd, T}
use Rattle.adapt_core.specs.Cells.{AdaptProblem}
use Rattle.run_core.specs.declared.fault.RunFault.{RunFault}
use Rattle.run_core.specs.Courses.{Course, whole}
use Rattle.mesh_output.specs.Lines.{header_line}
use Rattle.run_report.specs.Actions.{Action, piece}
use Rattle.run_report.specs.Outputs.{Acted, Output}
use Rattle.run_report.proofs.Prefixes.{with_actions-nil}
use Rattle.params_check.specs.Parameters.{Parameters}
use Rattle.cello_top.specs.declared.fault.Fault.{Fault}
use Rattle.cello_top.specs.declared.fault.Fault.TheVariants.{ReadFault, WriteFault}
use Rattle.cello_top.specs.declared.fault_class.FaultClass.{FaultClass}
use Rattle.cello_top.specs.declared.fault_class.FaultClass.TheVariants.{Limit}
use Rattle.cello_top.specs.declared.words.TextCommand.{TextCommand}
use Rattle.cello_top.specs.declared.words.TextCommand.TheVariants.{Solo, Check}
use Rattle.cello_top.specs.Words.{IsSolo, IsCheck, ReadsSource}
use Rattle.cello_top.specs.Faults.{CameToWrite, class_ending, fault_of}
use Rattle.cello_top.specs.Answers.{other_text, checked, run, refusal, run_answer, text_answer}
use Rattle.cello_top.specs.Lemmas.CommandSteps.{IsOf, call_saw, ReadParameters, ReadingEnds, reading_text, reading_source, reading_memory, AnswersRead, AnswersReadInPart, CommandEnds, command_answered, command_source, command_sink, command_memory, RanInPart, RanTo, RanWhole, RunningEnds, running_limit, running_failed, running_memory}
use Rattle.cello_top.proofs.FaultClasses.{text-class, text-answered, text-saw, limit-class, limit-answered, limit-saw, other-class}

-- a result that is an error for this reason
pub IfErr-from : {A E : Type 0} (Q P : E → Type 0) (r : Result A E) → IsErrAnd r Q → ((x : E) → Q x → P x) → IfErr r P
IfErr-from Q P (Ok x) is go = absurd is
IfErr-from Q P (Err e) is go = go e is

pub of_command : (command : TextCommand) (words : List (List ℕ)) → IsOf command words → ReadsSource words
of_command Solo words is = inl is
of_command Check words is = inr is

module _ (words : List (List ℕ)) (old new : Option (List ℕ)) (ended : Bool) (before after : Output) where
  -- reading ended otherwise than well, and then nothing was written
  pub reading-ends : ReadsSource words → after ≡ before → (fault : Fault) → ReadingEnds old new ended fault → CommandEnds words fault (call_saw old new ended before after)
  reading-ends set same fault (reading_text bytes read faulty) =
      command_answered (text-answered fault (text-class bytes fault faulty)) (text-saw fault (text-class bytes fault faulty)) (record {
        bytes = bytes;
        read = read;
        answer = refusal fault;
        is = λ past. other_text fault set faulty refl;
        same_fault = refl;
        acted = same ∙ sym (with_actions-nil before);
      })
  reading-ends set same fault (reading_source e) = command_source e
  reading-ends set same fault (reading_memory e) = command_memory e (inl same)

  pub reading-ends-so : ReadsSource words → after ≡ before → (fault found : Fault) → fault ≡ found → ReadingEnds old new ended found
      → CommandEnds words fault (call_saw old new ended before after)
  reading-ends-so set same fault found e ends = reading-ends set same fault (subst (ReadingEnds old new ended) (sym e) ends)

  module _ (p : Parameters) (r : ReadParameters old new ended p) where
    pub text-written : {T E : Type 0} → IsCheck words → (r : Result T E) → Acted (piece p.text ∷ []) before after r
        → IfOk r (λ _. AnswersRead words None (call_saw old new ended before after))
    text-written check (Ok done) wrote = record {
      bytes = r.bytes;
      read = r.read;
      answer = text_answer p;
      is = λ past. checked p check r.parameters refl;
      same_fault = refl;
      acted = wrote;
    }
    text-written check (Err fault) some = tt

    pub text-ends : {T : Type 0} → IsCheck words → (r : Result T Fault) → IfErr r (λ fault. fault ≡ WriteFault) → Acted (piece p.text ∷ []) before after r
        → IfErr r (λ fault. CommandEnds words fault (call_saw old new ended before after))
    text-ends check (Ok done) failed wrote = tt
    text-ends check (Err fault) failed some =
        command_sink failed (record {
          bytes = r.bytes;
          read = r.read;
          answer = text_answer p;
          is = λ past. checked p check r.parameters refl;
          part = some;
        })

    pub run-written : (counts : AdaptProblem → ℕ → Type 0) (handled : ℕ) → IsSolo words → RanWhole counts (piece header_line ∷ []) (whole p) handled before after → AnswersRead words None (call_saw old new ended before after)
    run-written counts handled solo h = record {
      bytes = r.bytes;
      read = r.read;
      answer = run_answer p h.ran.state None;
      is = λ past. run p h.ran.state None solo r.parameters h.ran.ends refl;
      same_fault = refl;
      acted = h.ran.acted;
    }

    limit-ends : IsSolo words → (limit : RunFault) → RanTo (piece header_line ∷ []) (whole p) (Some limit) before after → CommandEnds words (fault_of limit) (call_saw old new ended before after)
    limit-ends solo limit h =
        let is = limit-class (whole p) h.state limit h.ends in
        command_answered (limit-answered (fault_of limit) is) (limit-saw (fault_of limit) is) (record {
          bytes = r.bytes;
          read = r.read;
          answer = run_answer p h.state (Some limit);
          is = λ past. run p h.state (Some limit) solo r.parameters h.ends refl;
          same_fault = refl;
          acted = h.acted;
        })

    ran-in_part : IsSolo words → RanInPart (piece header_line ∷ []) (whole p) before after → AnswersReadInPart words (call_saw old new ended before after)
    ran-in_part solo h = record {
      bytes = r.bytes;
      read = r.read;
      answer = run_answer p h.state h.limit;
      is = λ past. run p h.state h.limit solo r.parameters h.ends refl;
      part = h.part;
    }

    pub run-ends-so : IsSolo words → (fault : Fault) → RunningEnds (piece header_line ∷ []) (whole p) before after fault → CommandEnds words fault (call_saw old new ended before after)
    run-ends-so solo fault (running_limit limit e h) = subst (λ (f : Fault). CommandEnds words f (call_saw old new ended before after)) (sym e) (limit-ends solo limit h)
    run-ends-so solo fault (running_failed e h) = command_sink e (ran-in_part solo h)
    run-ends-so solo fault (running_memory e h) = command_memory e (inr (ran-in_part solo h))

-- what a run ends by isn't the source
running-not-read : (front : List Action) (c : Course) (before after : Output) (fault : Fault) → RunningEnds front c before after fault → fault ≡ ReadFault → ⊥
running-not-read front c before after fault (running_limit limit is h) e =
    other-class (fault_of limit) ReadFault Limit (limit-class c h.state limit h.ends) (λ h. cc) (sym is ∙ e)
running-not-read front c before after fault (running_failed is h) e = cc
running-not-read front c before after fault (running_memory is h) e = cc

-- a run ends after it can have come to write
came-to-write : (front : List Action) (c : Course) (before after : Output) (fault : Fault) → RunningEnds front c before after fault → CameToWrite (Some fault)
came-to-write front c before after fault (running_limit limit is h) =
    subst (λ (f : Fault). CameToWrite (Some f)) (sym is) (subst (λ (k : FaultClass). T (class_ending k).wrote) (sym (limit-class c h.state limit h.ends)) tt)
came-to-write front c before after fault (running_failed is h) = subst (λ (f : Fault). CameToWrite (Some f)) (sym is) tt
came-to-write front c before after fault (running_memory is h) = subst (λ (f : Fault). CameToWrite (Some f)) (sym is) tt

pub run-unwritten : (front : List Action) (c : Course) (before after : Output) (same : Type 0) (r : Result ℕ Fault) → IfErr r (RunningEnds front c before after)
    → IfErr r (λ fault. (CameToWrite (Some fault) → ⊥) → same)
run-unwritten front c before after same (Ok n) ends = tt
run-unwritten front c before after same (Err f) ends = λ not. absurd (not (came-to-write front c before after f ends))

pub run-not-read : (front : List Action) (c : Course) (before after : Output) (r : Result ℕ Fault) → IfErr r (RunningEnds front c before after) → r ≡ Err ReadFault → ⊥
run-not-read front c before after (Ok n) ends e = cc
run-not-read front c before after (Err f) ends e =
    let same : f ≡ ReadFault = cc in
    running-not-read front c before after f ends same
