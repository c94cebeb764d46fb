-- A block by its fields in memory.
use Rattle.std.proofs.Common.{◌≡◌, ℕ, ◌*◌, ◌<◌, List, [], Some, slice_get, get_or, length, map, sym, subst, arith, Vec, Global}
use Rattle.block_fields.specs.Blocks.{BlockState, IsBlock}
use Rattle.block_fields.specs.Layout.{IsLaidOut, laid_out}
use Rattle.block_fields.specs.Shells.{ghost_count}
use Rattle.block_fields.specs.declared.block.Block.TheInside.{Inside}
use Rattle.block_fields.proofs.Fields.{field-at, field-is}
use Rattle.block_fields.proofs.Layouts.{IsLaidOut-IsBlock}

-- the elements of vectors
abbrev pub elements : List (Vec ℕ Global) → List (List ℕ)
elements vs = map (λ (v : Vec ℕ Global). v.items) vs

-- the block that the fields are, and what holds of them
abbrev pub seen_as : Inside → BlockState
seen_as b = laid_out b.place b.edge b.depth (elements b.amounts.items) (elements b.before.items) (elements b.ghosts.items)

abbrev pub IsKept : Inside → Type 0
IsKept b = IsLaidOut b.edge b.depth (elements b.amounts.items) (elements b.before.items) (elements b.ghosts.items)

module _ (b : Inside) (k : IsKept b) (s : BlockState) (view : seen_as b ≡ s) where
  pub kept-IsBlock : IsBlock s
  kept-IsBlock = subst IsBlock view (IsLaidOut-IsBlock b.place b.edge b.depth (elements b.amounts.items) (elements b.before.items) (elements b.ghosts.items) k)

  module _ (f : ℕ) (h : f < length s.amounts) where
    -- the field is there in each of the three lists
    pub amounts-there : f < length (elements b.amounts.items)
    amounts-there = subst (λ (s : BlockState). f < length s.amounts) (sym view) h

    pub before-there : f < length (elements b.before.items)
    before-there = let e = k.one_before_each in let a = amounts-there in omega arith

    pub ghosts-there : f < length (elements b.ghosts.items)
    ghosts-there = let e = k.one_shell_each in let a = amounts-there in omega arith

    module _ (v : Vec ℕ Global) where
      pub amounts-found : v ≡ get_or b.amounts.items f v → slice_get (elements b.amounts.items) f ≡ Some v.items
      amounts-found read = field-at (Vec ℕ Global) (λ v. v.items) b.amounts.items f v read amounts-there

      pub before-found : v ≡ get_or b.before.items f v → slice_get (elements b.before.items) f ≡ Some v.items
      before-found read = field-at (Vec ℕ Global) (λ v. v.items) b.before.items f v read before-there

      pub ghosts-found : v ≡ get_or b.ghosts.items f v → slice_get (elements b.ghosts.items) f ≡ Some v.items
      ghosts-found read = field-at (Vec ℕ Global) (λ v. v.items) b.ghosts.items f v read ghosts-there

      pub amounts-is : v ≡ get_or b.amounts.items f v → get_or (elements b.amounts.items) f [] ≡ v.items
      amounts-is read = field-is (Vec ℕ Global) (λ v. v.items) b.amounts.items f v read amounts-there

      pub before-is : v ≡ get_or b.before.items f v → get_or (elements b.before.items) f [] ≡ v.items
      before-is read = field-is (Vec ℕ Global) (λ v. v.items) b.before.items f v read before-there

      -- and how long the lists are
      pub length-amounts : v ≡ get_or b.amounts.items f v → length v.items ≡ b.edge * b.edge * b.edge
      length-amounts read = k.all_cells f v.items (amounts-found read)

      pub length-before : v ≡ get_or b.before.items f v → length v.items ≡ b.edge * b.edge * b.edge
      length-before read = k.all_before f v.items (before-found read)

      pub length-shell : v ≡ get_or b.ghosts.items f v → length v.items ≡ ghost_count b.edge b.depth
      length-shell read = k.all_ghosts f v.items (ghosts-found read)
