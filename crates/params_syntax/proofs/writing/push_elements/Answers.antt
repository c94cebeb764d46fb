-- One element more, after a comma or first.
use Rattle.std.proofs.Common.{◌++◌, append_assoc, arith, take}
use Rattle.std.specs.Prelude.{codes}
use Rattle.params_syntax.specs.Canonical.{atom_text, elements_text}
use Rattle.params_syntax.proofs.Elements.{elements_text-first, elements_text-more}
use Rattle.params_syntax.proofs.writing.push_elements.Goals as goal
use Rattle.params_syntax.proofs.writing.push_elements.Goals.{then-i-gt0+in_ok-extend_from_slice, else-i-gt0}

pub loop-i-preserved : goal.loop-i-preserved
loop-i-preserved c =
    let atoms = c.args.atoms.now in
    let i = c.loop-i.i in
    let a = c.index-atoms-i.result in
    let before = c.args.text.now.items in
    let front = elements_text (take i atoms) in
    elim c.if-i-gt0.branch [
      | then-i-gt0+in_ok-extend_from_slice w ↦
          let more = elements_text-more atoms i a (omega arith) (omega arith) c.index-atoms-i.is in
          let parts = append_assoc (before ++ front) (codes ", ") (atom_text a) in
          let joined = append_assoc before front (codes ", " ++ atom_text a) in
          cc (more, parts, joined, c.atom_line.ensures.text, c.bytes.ensures.bytes, c.in_ok-extend_from_slice-2.ensures.items, w.in_ok-extend_from_slice.ensures.items)
      | else-i-gt0 w ↦
          let first = elements_text-first atoms i a (omega arith) (omega arith) c.index-atoms-i.is in
          let joined = append_assoc before front (atom_text a) in
          cc (first, joined, c.atom_line.ensures.text, c.bytes.ensures.bytes, c.in_ok-extend_from_slice-2.ensures.items)
    ]
