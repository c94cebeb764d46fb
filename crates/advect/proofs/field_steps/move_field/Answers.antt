use Rattle.std.proofs.Common.{◌≡◌, ℕ, ◌+◌, ◌*◌, true, false, List, slice_index, ap, sym, ◌∙◌, arith}
use Rattle.block_fields.specs.Blocks.{number_at}
use Rattle.grid_fluxes.specs.Axes.{along_x, along_y, along_z}
use Rattle.advect.specs.Lemmas.Passes.{base}
use Rattle.advect.specs.Lemmas.Rims.{NotesField, NotesRim}
use Rattle.advect.specs.Lemmas.Streams.{field_of, stream_flux, stream_on}
use Rattle.advect.specs.declared.stream.Streams.{Streams}
use Rattle.advect.proofs.Insides.{elements}
use Rattle.advect.proofs.RimNotes.{note-three}
use Rattle.advect.proofs.Steps.{fits-second, fits-third, held-second, held-third, three-moves}
use Rattle.advect.proofs.field_steps.move_field.Goals as goal

pub step_in-after_y-requires-clause-held : goal.step_in-after_y-requires-clause-held
step_in-after_y-requires-clause-held c =
    let r = c.requires in
    let am = c.args.amounts.now in
    held-second c.args.streams.x c.args.streams.y c.args.streams.z (field_of c.args.n c.args.depth am c.args.ghosts.now) (omega arith) r.small r.below r.above r.held
    (base c.step_in-after_x.result am c.step_in-after_x.new.next) (λ k. 0) (λ k. 0) (λ x y z hx hy hz. c.step_in-after_x.ensures.moved x y z hx hy hz)

pub step_in-after_y-requires-clause-fits : goal.step_in-after_y-requires-clause-fits
step_in-after_y-requires-clause-fits c =
    let r = c.requires in
    let am = c.args.amounts.now in
    fits-second c.args.streams.x c.args.streams.y c.args.streams.z (field_of c.args.n c.args.depth am c.args.ghosts.now) (omega arith) r.small r.below r.above r.held
    (base c.step_in-after_x.result am c.step_in-after_x.new.next) (λ k. 0) (λ k. 0) (λ x y z hx hy hz. c.step_in-after_x.ensures.moved x y z hx hy hz)

pub step_in-after_z-requires-clause-below : goal.step_in-after_z-requires-clause-below
step_in-after_z-requires-clause-below c = c.requires.below along_z

pub step_in-after_z-requires-clause-above : goal.step_in-after_z-requires-clause-above
step_in-after_z-requires-clause-above c = c.requires.above along_z

pub step_in-after_z-requires-clause-held : goal.step_in-after_z-requires-clause-held
step_in-after_z-requires-clause-held c =
    let r = c.requires in
    let am = c.args.amounts.now in
    held-third c.args.streams.x c.args.streams.y c.args.streams.z (field_of c.args.n c.args.depth am c.args.ghosts.now) (omega arith) r.small r.below r.above r.held
    (base c.step_in-after_x.result am c.step_in-after_x.new.next) (base c.step_in-after_y.result am c.step_in-after_y.new.next) (λ k. 0)
    (λ x y z hx hy hz. c.step_in-after_x.ensures.moved x y z hx hy hz) (λ x y z hx hy hz. c.step_in-after_y.ensures.moved y x z hy hx hz)

pub step_in-after_z-requires-clause-fits : goal.step_in-after_z-requires-clause-fits
step_in-after_z-requires-clause-fits c =
    let r = c.requires in
    let am = c.args.amounts.now in
    fits-third c.args.streams.x c.args.streams.y c.args.streams.z (field_of c.args.n c.args.depth am c.args.ghosts.now) (omega arith) r.small r.below r.above r.held
    (base c.step_in-after_x.result am c.step_in-after_x.new.next) (base c.step_in-after_y.result am c.step_in-after_y.new.next) (λ k. 0)
    (λ x y z hx hy hz. c.step_in-after_x.ensures.moved x y z hx hy hz) (λ x y z hx hy hz. c.step_in-after_y.ensures.moved y x z hy hx hz)

pub returns-then-after_z-clause-moved : goal.returns-then-after_z-clause-moved
returns-then-after_z-clause-moved c = λ x y z hx hy hz.
    let r = c.requires in
    let am = c.args.amounts.now in
    let k = number_at c.args.n x y z in
    let still : base c.step_in-after_z.result am c.step_in-after_z.new.next k ≡ base true am c.step_in-after_z.new.next k = ap (λ t. base t am c.step_in-after_z.new.next k) c.if-after_z.true in
    ap (λ (l : List ℕ). slice_index l k) c.copy_from_slice.ensures.after
    ∙ sym still
    ∙ three-moves c.args.streams.x c.args.streams.y c.args.streams.z (field_of c.args.n c.args.depth am c.args.ghosts.now) (omega arith) r.small r.below r.above r.held
    (base c.step_in-after_x.result am c.step_in-after_x.new.next) (base c.step_in-after_y.result am c.step_in-after_y.new.next) (base c.step_in-after_z.result am c.step_in-after_z.new.next)
    (λ x y z hx hy hz. c.step_in-after_x.ensures.moved x y z hx hy hz) (λ x y z hx hy hz. c.step_in-after_y.ensures.moved y x z hy hx hz) (λ x y z hx hy hz. c.step_in-after_z.ensures.moved z x y hz hx hy) x y z hx hy hz

pub returns-else-after_z-clause-moved : goal.returns-else-after_z-clause-moved
returns-else-after_z-clause-moved c = λ x y z hx hy hz.
    let r = c.requires in
    let am = c.args.amounts.now in
    let k = number_at c.args.n x y z in
    let still : base c.step_in-after_z.result am c.step_in-after_z.new.next k ≡ base false am c.step_in-after_z.new.next k = ap (λ t. base t am c.step_in-after_z.new.next k) c.if-after_z.false in
    sym still
    ∙ three-moves c.args.streams.x c.args.streams.y c.args.streams.z (field_of c.args.n c.args.depth am c.args.ghosts.now) (omega arith) r.small r.below r.above r.held
    (base c.step_in-after_x.result am c.step_in-after_x.new.next) (base c.step_in-after_y.result am c.step_in-after_y.new.next) (base c.step_in-after_z.result am c.step_in-after_z.new.next)
    (λ x y z hx hy hz. c.step_in-after_x.ensures.moved x y z hx hy hz) (λ x y z hx hy hz. c.step_in-after_y.ensures.moved y x z hy hx hz) (λ x y z hx hy hz. c.step_in-after_z.ensures.moved z x y hz hx hy) x y z hx hy hz

low-notes : (n depth field : ℕ) (streams : Streams) (am gh : List ℕ) (a b c d : List (List ℕ)) (u : ℕ) →
    NotesRim n (3 * field) (stream_flux streams.x (field_of n depth am gh) along_x u) a b → NotesRim n (3 * field + 1) (stream_flux streams.y (field_of n depth am gh) along_y u) b c →
    NotesRim n (3 * field + 2) (stream_flux streams.z (field_of n depth am gh) along_z u) c d → NotesField n field (λ a. stream_flux (stream_on streams a) (field_of n depth am gh) a u) a d
low-notes n depth field streams am gh a b c d u x y z = note-three n field (λ a. stream_flux (stream_on streams a) (field_of n depth am gh) a u) a b c d x y z

pub returns-then-after_z-clause-low : goal.returns-then-after_z-clause-low
returns-then-after_z-clause-low c =
    low-notes c.args.n c.args.depth c.args.field c.args.streams c.args.amounts.now c.args.ghosts.now (elements c.args.low.now.items) (elements c.step_in-after_x.new.low.items) (elements c.step_in-after_y.new.low.items) (elements c.step_in-after_z.new.low.items) 0
    c.step_in-after_x.ensures.low c.step_in-after_y.ensures.low c.step_in-after_z.ensures.low

pub returns-then-after_z-clause-high : goal.returns-then-after_z-clause-high
returns-then-after_z-clause-high c =
    low-notes c.args.n c.args.depth c.args.field c.args.streams c.args.amounts.now c.args.ghosts.now (elements c.args.high.now.items) (elements c.step_in-after_x.new.high.items) (elements c.step_in-after_y.new.high.items) (elements c.step_in-after_z.new.high.items) c.args.n
    c.step_in-after_x.ensures.high c.step_in-after_y.ensures.high c.step_in-after_z.ensures.high

pub returns-else-after_z-clause-low : goal.returns-else-after_z-clause-low
returns-else-after_z-clause-low c =
    low-notes c.args.n c.args.depth c.args.field c.args.streams c.args.amounts.now c.args.ghosts.now (elements c.args.low.now.items) (elements c.step_in-after_x.new.low.items) (elements c.step_in-after_y.new.low.items) (elements c.step_in-after_z.new.low.items) 0
    c.step_in-after_x.ensures.low c.step_in-after_y.ensures.low c.step_in-after_z.ensures.low

pub returns-else-after_z-clause-high : goal.returns-else-after_z-clause-high
returns-else-after_z-clause-high c =
    low-notes c.args.n c.args.depth c.args.field c.args.streams c.args.amounts.now c.args.ghosts.now (elements c.args.high.now.items) (elements c.step_in-after_x.new.high.items) (elements c.step_in-after_y.new.high.items) (elements c.step_in-after_z.new.high.items) c.args.n
    c.step_in-after_x.ensures.high c.step_in-after_y.ensures.high c.step_in-after_z.ensures.high
