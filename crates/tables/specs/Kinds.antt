-- What a byte of an atom says: its kind, and what each of its sides is.
use Rattle.std.specs.Prelude.{cond, ℕ, eqb, ltb}
use Rattle.tables.specs.declared.kinds.AtomKind.{AtomKind}
use Rattle.tables.specs.declared.kinds.SideTag.{SideTag}
use Rattle.tables.specs.Numbers.{read_atom, acc_atom, chain_atom, eq_atom, ne_atom, num_tag, null_tag, var_tag, path_tag}

-- the kind that a byte is: `read` below them, `ne` above
unfoldable pub kind_of : ℕ → AtomKind
kind_of b =
    cond (ltb b acc_atom) AtomKind.Read
    (cond (eqb b acc_atom) AtomKind.Acc
    (cond (eqb b chain_atom) AtomKind.Chain
    (cond (eqb b eq_atom) AtomKind.Eq AtomKind.Ne)))

-- the number of a kind
abbrev pub kind_number : AtomKind → ℕ
kind_number AtomKind.Read = read_atom
kind_number AtomKind.Acc = acc_atom
kind_number AtomKind.Chain = chain_atom
kind_number AtomKind.Eq = eq_atom
kind_number AtomKind.Ne = ne_atom

-- the tag that a byte is: that of a path above them
unfoldable pub side_of : ℕ → SideTag
side_of b = cond (eqb b num_tag) SideTag.Num (cond (eqb b null_tag) SideTag.Null (cond (eqb b var_tag) SideTag.Var SideTag.Path))

-- the number of a tag
abbrev pub side_number : SideTag → ℕ
side_number SideTag.Num = num_tag
side_number SideTag.Null = null_tag
side_number SideTag.Var = var_tag
side_number SideTag.Path = path_tag
