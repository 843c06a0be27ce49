-- Lists of applications.
use Rattle.std.specs.Prelude.{Bool, true, false, ℕ}
use Rattle.atn.specs.Format.{Fmt, num, placed, seq, Flds, end, ◌⨾◌}
use Rattle.atn.specs.Messages.{unsupplied, applications, addressed}
use Rattle.atn.specs.Tags as tag

-- what follows the two numbers of an entry, with an address or without
abbrev pub address_of : Bool → Flds
address_of true = unsupplied ⨾ end
address_of false = end

abbrev pub entry_of : Bool → ℕ → Fmt
entry_of b t = placed t (seq (num tag.ae_qualifier 0 255 ⨾ num tag.ap_version 1 255 ⨾ address_of b))

abbrev pub list_of : Bool → ℕ → Fmt
list_of true t = addressed t
list_of false t = applications t
