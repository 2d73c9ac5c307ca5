-- To be believed: which optional parts of RFC 8613 a context takes part in (4.1.3.4 and 4.1.3.5). x is what it takes part in.
use Rattle.std.specs.Prelude.{false}
use Rattle.osc_context.specs.declared.features.Features.{Features}

-- none: a context that was just derived has these (own rule)
abbrev pub no_features : Features
no_features = record { observe = false; blocks = false }

-- the same ones without Observe (RFC 8613, 4.1.3.5)
abbrev pub unobserved : Features → Features
unobserved x = record { observe = false; blocks = x.blocks }
