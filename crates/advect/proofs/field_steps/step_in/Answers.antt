use Rattle.std.proofs.Common.{◌≡◌, ℕ, ◌*◌, ◌<◌, List, length, slice_index_or, ap, sym, ◌∙◌, subst, Vec, Global}
use Rattle.std.proofs.lemmas.List.{length-map}
use Rattle.block_fields.proofs.Fields.{field-at}
use Rattle.advect.specs.Lemmas.Lines.{axis_named}
use Rattle.advect.specs.Lemmas.Rims.{AreSides}
use Rattle.advect.specs.Lemmas.Streams.{field_of, stream_flux}
use Rattle.advect.proofs.Insides.{elements}
use Rattle.advect.proofs.RimNotes.{note-one}
use Rattle.advect.proofs.field_steps.step_in.Goals as goal

there : (vs : List (Vec ℕ Global)) (at : ℕ) → at < length vs → at < length (elements vs)
there vs at h = subst (λ t. at < t) (sym (length-map vs (λ (v : Vec ℕ Global). v.items))) h

side : (n : ℕ) (vs : List (Vec ℕ Global)) (at : ℕ) (v : Vec ℕ Global) → at < length vs → AreSides n (elements vs) → v ≡ slice_index_or vs at v → length v.items ≡ n * n
side n vs at v h sides read = sides at v.items (field-at (Vec ℕ Global) (λ v. v.items) vs at v read (there vs at h))

pub step-requires-clause-low : goal.step-requires-clause-low
step-requires-clause-low c =
    ap length c.as_mut_slice-low.ensures.value ∙ side c.args.n c.args.low.now.items c.args.at c.index_mut.result.now c.requires.at_low c.requires.low c.index_mut.ensures.value

pub step-requires-clause-high : goal.step-requires-clause-high
step-requires-clause-high c =
    ap length c.as_mut_slice-high.ensures.value ∙ side c.args.n c.args.high.now.items c.args.at c.index_mut-2.result.now c.requires.at_high c.requires.high c.index_mut-2.ensures.value

pub returns-clause-low : goal.returns-clause-low
returns-clause-low c =
    note-one c.args.n c.args.at (stream_flux c.args.stream (field_of c.args.n c.args.depth c.args.amounts.now c.args.ghosts.now) (axis_named c.args.line) 0) c.args.low.now.items c.index_mut.result.now c.step.new.low
    (there c.args.low.now.items c.args.at c.requires.at_low) c.requires.low (c.step.auto.low ∙ c.as_mut_slice-low.ensures.len)
    (c.step.auto.low ∙ ap length c.as_mut_slice-low.ensures.value ∙ side c.args.n c.args.low.now.items c.args.at c.index_mut.result.now c.requires.at_low c.requires.low c.index_mut.ensures.value) c.step.ensures.low

pub returns-clause-high : goal.returns-clause-high
returns-clause-high c =
    note-one c.args.n c.args.at (stream_flux c.args.stream (field_of c.args.n c.args.depth c.args.amounts.now c.args.ghosts.now) (axis_named c.args.line) c.args.n) c.args.high.now.items c.index_mut-2.result.now c.step.new.high
    (there c.args.high.now.items c.args.at c.requires.at_high) c.requires.high (c.step.auto.high ∙ c.as_mut_slice-high.ensures.len)
    (c.step.auto.high ∙ ap length c.as_mut_slice-high.ensures.value ∙ side c.args.n c.args.high.now.items c.args.at c.index_mut-2.result.now c.requires.at_high c.requires.high c.index_mut-2.ensures.value) c.step.ensures.high
