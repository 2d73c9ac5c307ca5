-- Commands none of whose arguments is one of their subcommands too.
use Rattle.std.proofs.Common.{◌≡◌, false, refl, ap, ◌∙◌, Result, Ok, Err, IfOk}
use Rattle.clap.specs.Built.{AddsArg, AddsSubcommand}
use Rattle.clap.specs.declared.builder.arg.Arg.{Arg}
use Rattle.clap.specs.declared.builder.command.Command.{Command}
use Rattle.osc_command.specs.Calls.{IsLocal}

-- equal arguments are both of the command alone, or neither is
pub global_of : {a b : Arg} → a ≡ b → a.global ≡ b.global
global_of e = ap (λ (x : Arg). x.global) e

-- an argument that is another one but for a field is of the command alone as that one is, where memory lasted
pub kept_global : {E : Type 0} (F : Arg → Arg) (Q : Arg → Type 0) (r : Result Arg E) → IfOk r (λ a. (a ≡ F a) × Q a) → ((a : Arg) → (F a).global ≡ false) → IfOk r (λ a. a.global ≡ false)
kept_global F Q (Ok a) same plain = global_of same.0 ∙ plain a
kept_global F Q (Err e) same plain = tt

-- an argument of the command alone leaves it such a command
pub adds_local : (old : Command) (arg : Arg) (new : Command) → AddsArg old arg new → IsLocal old → arg.global ≡ false → IsLocal new
adds_local old arg new added is_local plain = rw (added.globals, is_local, plain) refl

-- the same of an addition that may run out of memory
pub may_add_local : {E : Type 0} (old : Command) (arg : Arg) (r : Result Command E) → IfOk r (λ new. AddsArg old arg new) → IsLocal old → arg.global ≡ false → IfOk r IsLocal
may_add_local old arg (Ok new) added is_local plain = adds_local old arg new added is_local plain
may_add_local old arg (Err e) added is_local plain = tt

-- a call that is such a command leaves it one
pub adds_call : (old call new : Command) → AddsSubcommand old call new → IsLocal old → IsLocal call → IsLocal new
adds_call old call new added is_local call_is = rw (added.globals, is_local, call_is) refl
