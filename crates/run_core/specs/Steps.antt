-- Which work of a run comes next.
use Rattle.std.specs.Prelude.{ℕ, ◌+◌, ◌-◌, ◌*◌, ◌==◌, cond, nat_lt}
use Rattle.run_core.specs.declared.step.Step.{Step}
use Rattle.run_core.specs.declared.step.Step.TheVariants.{Refresh, Wishes, Adapt, RefreshAgain, Advance, Flux, Emit, Ended}
use Rattle.run_core.specs.Courses.{Course, phases_of}

-- after so many phases that are no cycle's: where these are all initial rounds, cycle 0 has ended, and is told
abbrev pub after_round : ℕ → ℕ → Step
after_round rounds number = cond (number == rounds) Emit Refresh

-- after the adapt phase of this number: the refresh before the advance of its cycle, where it is no initial round
abbrev pub after_adapt : ℕ → ℕ → Step
after_adapt rounds number = cond (nat_lt rounds number) RefreshAgain (after_round rounds number)

-- after a cycle was told: the next phase, or the end of the run
abbrev pub after_cycle_told : ℕ → ℕ → Step
after_cycle_told phases all = cond (nat_lt phases all) Refresh Ended

-- the first step of the whole run of parameters with so many initial rounds
abbrev pub first_step : ℕ → Step
first_step rounds = after_round rounds 0

-- the step after each one, where so many phases of a run have ended
abbrev pub step_after : Course → ℕ → Step → Step
step_after c phases Refresh = Wishes
step_after c phases Wishes = Adapt
step_after c phases Adapt = after_adapt c.parameters.rounds (c.ended + phases + 1)
step_after c phases RefreshAgain = Advance
step_after c phases Advance = Flux
step_after c phases Flux = Emit
step_after c phases Emit = after_cycle_told phases (phases_of c)
step_after c phases Ended = Ended

-- how many phases have ended after each step: an initial round ends with its adapt phase, a cycle's with its advance
abbrev pub phases_after : Course → ℕ → Step → ℕ
phases_after c phases Refresh = phases
phases_after c phases Wishes = phases
phases_after c phases Adapt = cond (nat_lt c.parameters.rounds (c.ended + phases + 1)) phases (phases + 1)
phases_after c phases RefreshAgain = phases
phases_after c phases Advance = phases
phases_after c phases Flux = phases + 1
phases_after c phases Emit = phases
phases_after c phases Ended = phases

-- the number of the last adapt phase that ended, where the phases up to this number have ended with their advances
abbrev pub adapts_at : Step → ℕ → ℕ
adapts_at Refresh number = number
adapts_at Wishes number = number
adapts_at Adapt number = number
adapts_at RefreshAgain number = number + 1
adapts_at Advance number = number + 1
adapts_at Flux number = number + 1
adapts_at Emit number = number
adapts_at Ended number = number

-- how many works are left at most from a step on, where so many phases haven't ended
abbrev pub steps_left : Step → ℕ → ℕ
steps_left Refresh phases = 8 * phases + 2
steps_left Wishes phases = 8 * phases + 1
steps_left Adapt phases = 8 * phases
steps_left RefreshAgain phases = 8 * phases - 1
steps_left Advance phases = 8 * phases - 2
steps_left Flux phases = 8 * phases - 3
steps_left Emit phases = 8 * phases + 3
steps_left Ended phases = 1
