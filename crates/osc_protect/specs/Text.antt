-- To be believed: how refusals print: each as its name, a format fault as its own text.
use Rattle.std.specs.Prelude.{ℕ, List, ◌++◌, codes}
use Rattle.std.specs.Fmt.{decimal}
use Rattle.osc_coap.specs.Text.{error_text}
use Rattle.osc_protect.specs.declared.head_error.NoHead.{NoHead}
use Rattle.osc_protect.specs.declared.head_error.NoHead.TheVariants as none
use Rattle.osc_protect.specs.declared.head_error.HeadError.{HeadError}
use Rattle.osc_protect.specs.declared.head_error.HeadError.TheVariants as heads
use Rattle.osc_protect.specs.declared.protect_error.ProtectError.{ProtectError}
use Rattle.osc_protect.specs.declared.protect_error.ProtectError.TheVariants as protects
use Rattle.osc_protect.specs.declared.unprotect_error.UnprotectError.{UnprotectError}
use Rattle.osc_protect.specs.declared.unprotect_error.UnprotectError.TheVariants.{Format, NotThatKind, NoOscore, Undecodable, WrongContext, Tag, Inner}

-- the printed reason why a message has no head (own rule)
abbrev pub no_head_text : NoHead → List ℕ
no_head_text none.NotThatKind = codes "NotThatKind"
no_head_text none.NoOscore = codes "NoOscore"
no_head_text none.Undecodable = codes "Undecodable"

-- the refusal to read a datagram's head, if its message has no head for this reason (own rule)
abbrev pub raised : NoHead → HeadError
raised none.NotThatKind = heads.NotThatKind
raised none.NoOscore = heads.NoOscore
raised none.Undecodable = heads.Undecodable

-- how a refusal to read a head prints (own rule)
abbrev pub head_error_text : HeadError → List ℕ
head_error_text (heads.Format e) = error_text e
head_error_text heads.NotThatKind = codes "NotThatKind"
head_error_text heads.NoOscore = codes "NoOscore"
head_error_text heads.Undecodable = codes "Undecodable"

-- how a refusal to open prints (own rule)
abbrev pub unprotect_error_text : UnprotectError → List ℕ
unprotect_error_text (Format e) = error_text e
unprotect_error_text NotThatKind = codes "NotThatKind"
unprotect_error_text NoOscore = codes "NoOscore"
unprotect_error_text Undecodable = codes "Undecodable"
unprotect_error_text WrongContext = codes "WrongContext"
unprotect_error_text Tag = codes "Tag"
unprotect_error_text Inner = codes "Inner"

-- the refusal to open that follows from a refusal to read the head (own rule)
abbrev pub lifted : HeadError → UnprotectError
lifted (heads.Format e) = Format e
lifted heads.NotThatKind = NotThatKind
lifted heads.NoOscore = NoOscore
lifted heads.Undecodable = Undecodable

-- how a refusal to seal prints, an unsupported option with its number (own rule)
abbrev pub protect_error_text : ProtectError → List ℕ
protect_error_text protects.NotThatKind = codes "NotThatKind"
protect_error_text (protects.Unsupported n) = codes "Unsupported " ++ decimal n
protect_error_text protects.TooLong = codes "TooLong"
protect_error_text protects.NoRoom = codes "NoRoom"

-- how a bad tag prints (own rule)
abbrev pub bad_tag_text : List ℕ
bad_tag_text = codes "Tag"

-- how a bad plaintext prints (own rule)
abbrev pub bad_inner_text : List ℕ
bad_inner_text = codes "Inner"
