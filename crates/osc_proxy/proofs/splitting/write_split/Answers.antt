use Rattle.std.proofs.Common.{rules, List, ◌∷◌, length, subst}
use Rattle.osc_coap.specs.OptionSpelling.{Entry}
use Rattle.osc_coap.specs.Views.{options_left, parts_of}
use Rattle.osc_coap.specs.Writer.{Holds}
use Rattle.osc_coap.specs.Writing.{Draft}
use Rattle.osc_proxy.specs.Splitting.{between, part_options}
use Rattle.osc_proxy.specs.UriViews.{parts_left}
use Rattle.osc_proxy.proofs.Askings.{not_err, taken_either}
use Rattle.osc_proxy.proofs.Sequences.{takes_first, takes_part}
use Rattle.osc_proxy.proofs.Splittings.{draft0, draft1, draft2, draft3, draft4, draft5, draft6, draft7, draft8, draft9, left3, left5, left6, left7, left8, left9, split_payload, split_whole, takes0, takes1, takes2, takes3, takes4, takes5, takes6, takes7, takes8, takes9}
use Rattle.osc_proxy.proofs.splitting.write_split.Goals as goal

pub write_between-requires : goal.write_between-requires
write_between-requires c =
    let p = parts_of c.args.request.now in
    let host = c.args.host.now in
    let port = c.args.port.now in
    let path = parts_left c.args.path in
    let query = parts_left c.args.query in
    let out = c.args.out.now in
    let os : List Entry = options_left c.options-options.result in
    let up = c.options_ascend.ensures.held_message c.args.request.now in
    let held0 = c.begin-writer.ensures.made in
    let all = takes0 p host port path query os (length out) c.options-options.ensures up c.requires.code c.requires.room c.requires.fits in
    (draft0 p host port path query os, out, held0, takes_part (length out) (draft0 p host port path query os) (between 0 3 os) ((3, host) ∷ left3 p host port path query os) all)

pub add_option-requires : goal.add_option-requires
add_option-requires c =
    let p = parts_of c.args.request.now in
    let host = c.args.host.now in
    let port = c.args.port.now in
    let path = parts_left c.args.path in
    let query = parts_left c.args.query in
    let out = c.args.out.now in
    let os : List Entry = options_left c.options-options.result in
    let up = c.options_ascend.ensures.held_message c.args.request.now in
    let held0 = c.begin-writer.ensures.made in
    let held1 = c.write_between.ensures.written (draft0 p host port path query os) out held0 in
    let all = takes0 p host port path query os (length out) c.options-options.ensures up c.requires.code c.requires.room c.requires.fits in
    (draft1 p host port path query os, out, held1, takes_first (length out) (draft1 p host port path query os) 3 host (left3 p host port path query os) (takes1 p host port path query os (length out) all))

pub write_between-requires-2 : goal.write_between-requires-2
write_between-requires-2 c =
    let p = parts_of c.args.request.now in
    let host = c.args.host.now in
    let port = c.args.port.now in
    let path = parts_left c.args.path in
    let query = parts_left c.args.query in
    let out = c.args.out.now in
    let os : List Entry = options_left c.options-options.result in
    let up = c.options_ascend.ensures.held_message c.args.request.now in
    let held0 = c.begin-writer.ensures.made in
    let held1 = c.write_between.ensures.written (draft0 p host port path query os) out held0 in
    let held2 = c.add_option.ensures.written (draft1 p host port path query os) out held1 in
    let all = takes0 p host port path query os (length out) c.options-options.ensures up c.requires.code c.requires.room c.requires.fits in
    (draft2 p host port path query os, out, held2, takes_part (length out) (draft2 p host port path query os) (between 4 7 os) ((7, port) ∷ left5 p host port path query os) (takes2 p host port path query os (length out) all))

pub add_option-requires-2 : goal.add_option-requires-2
add_option-requires-2 c =
    let p = parts_of c.args.request.now in
    let host = c.args.host.now in
    let port = c.args.port.now in
    let path = parts_left c.args.path in
    let query = parts_left c.args.query in
    let out = c.args.out.now in
    let os : List Entry = options_left c.options-options.result in
    let up = c.options_ascend.ensures.held_message c.args.request.now in
    let held0 = c.begin-writer.ensures.made in
    let held1 = c.write_between.ensures.written (draft0 p host port path query os) out held0 in
    let held2 = c.add_option.ensures.written (draft1 p host port path query os) out held1 in
    let held3 = c.write_between-2.ensures.written (draft2 p host port path query os) out held2 in
    let all = takes0 p host port path query os (length out) c.options-options.ensures up c.requires.code c.requires.room c.requires.fits in
    (draft3 p host port path query os, out, held3, takes_first (length out) (draft3 p host port path query os) 7 port (left5 p host port path query os) (takes3 p host port path query os (length out) all))

pub write_between-requires-3 : goal.write_between-requires-3
write_between-requires-3 c =
    let p = parts_of c.args.request.now in
    let host = c.args.host.now in
    let port = c.args.port.now in
    let path = parts_left c.args.path in
    let query = parts_left c.args.query in
    let out = c.args.out.now in
    let os : List Entry = options_left c.options-options.result in
    let up = c.options_ascend.ensures.held_message c.args.request.now in
    let held0 = c.begin-writer.ensures.made in
    let held1 = c.write_between.ensures.written (draft0 p host port path query os) out held0 in
    let held2 = c.add_option.ensures.written (draft1 p host port path query os) out held1 in
    let held3 = c.write_between-2.ensures.written (draft2 p host port path query os) out held2 in
    let held4 = c.add_option-2.ensures.written (draft3 p host port path query os) out held3 in
    let all = takes0 p host port path query os (length out) c.options-options.ensures up c.requires.code c.requires.room c.requires.fits in
    (draft4 p host port path query os, out, held4, takes_part (length out) (draft4 p host port path query os) (between 8 11 os) (left6 p host port path query os) (takes4 p host port path query os (length out) all))

pub write_parts-requires-clause-taken : goal.write_parts-requires-clause-taken
write_parts-requires-clause-taken c =
    let p = parts_of c.args.request.now in
    let host = c.args.host.now in
    let port = c.args.port.now in
    let path = parts_left c.args.path in
    let query = parts_left c.args.query in
    let out = c.args.out.now in
    let os : List Entry = options_left c.options-options.result in
    let up = c.options_ascend.ensures.held_message c.args.request.now in
    let held0 = c.begin-writer.ensures.made in
    let held1 = c.write_between.ensures.written (draft0 p host port path query os) out held0 in
    let held2 = c.add_option.ensures.written (draft1 p host port path query os) out held1 in
    let held3 = c.write_between-2.ensures.written (draft2 p host port path query os) out held2 in
    let held4 = c.add_option-2.ensures.written (draft3 p host port path query os) out held3 in
    let held5 = c.write_between-3.ensures.written (draft4 p host port path query os) out held4 in
    let all = takes0 p host port path query os (length out) c.options-options.ensures up c.requires.code c.requires.room c.requires.fits in
    (draft5 p host port path query os, out, held5, takes_part (length out) (draft5 p host port path query os) (part_options 11 path) (left7 p host port path query os) (takes5 p host port path query os (length out) all))

pub write_between-requires-4 : goal.write_between-requires-4
write_between-requires-4 c =
    let p = parts_of c.args.request.now in
    let host = c.args.host.now in
    let port = c.args.port.now in
    let path = parts_left c.args.path in
    let query = parts_left c.args.query in
    let out = c.args.out.now in
    let os : List Entry = options_left c.options-options.result in
    let up = c.options_ascend.ensures.held_message c.args.request.now in
    let held0 = c.begin-writer.ensures.made in
    let held1 = c.write_between.ensures.written (draft0 p host port path query os) out held0 in
    let held2 = c.add_option.ensures.written (draft1 p host port path query os) out held1 in
    let held3 = c.write_between-2.ensures.written (draft2 p host port path query os) out held2 in
    let held4 = c.add_option-2.ensures.written (draft3 p host port path query os) out held3 in
    let held5 = c.write_between-3.ensures.written (draft4 p host port path query os) out held4 in
    let held6 = c.write_parts.ensures.written (draft5 p host port path query os) out held5 in
    let all = takes0 p host port path query os (length out) c.options-options.ensures up c.requires.code c.requires.room c.requires.fits in
    (draft6 p host port path query os, out, held6, takes_part (length out) (draft6 p host port path query os) (between 12 15 os) (left8 p host port path query os) (takes6 p host port path query os (length out) all))

pub write_parts-requires-2-clause-taken : goal.write_parts-requires-2-clause-taken
write_parts-requires-2-clause-taken c =
    let p = parts_of c.args.request.now in
    let host = c.args.host.now in
    let port = c.args.port.now in
    let path = parts_left c.args.path in
    let query = parts_left c.args.query in
    let out = c.args.out.now in
    let os : List Entry = options_left c.options-options.result in
    let up = c.options_ascend.ensures.held_message c.args.request.now in
    let held0 = c.begin-writer.ensures.made in
    let held1 = c.write_between.ensures.written (draft0 p host port path query os) out held0 in
    let held2 = c.add_option.ensures.written (draft1 p host port path query os) out held1 in
    let held3 = c.write_between-2.ensures.written (draft2 p host port path query os) out held2 in
    let held4 = c.add_option-2.ensures.written (draft3 p host port path query os) out held3 in
    let held5 = c.write_between-3.ensures.written (draft4 p host port path query os) out held4 in
    let held6 = c.write_parts.ensures.written (draft5 p host port path query os) out held5 in
    let held7 = c.write_between-4.ensures.written (draft6 p host port path query os) out held6 in
    let all = takes0 p host port path query os (length out) c.options-options.ensures up c.requires.code c.requires.room c.requires.fits in
    (draft7 p host port path query os, out, held7, takes_part (length out) (draft7 p host port path query os) (part_options 15 query) (left9 p host port path query os) (takes7 p host port path query os (length out) all))

pub write_between-requires-5 : goal.write_between-requires-5
write_between-requires-5 c =
    let p = parts_of c.args.request.now in
    let host = c.args.host.now in
    let port = c.args.port.now in
    let path = parts_left c.args.path in
    let query = parts_left c.args.query in
    let out = c.args.out.now in
    let os : List Entry = options_left c.options-options.result in
    let up = c.options_ascend.ensures.held_message c.args.request.now in
    let held0 = c.begin-writer.ensures.made in
    let held1 = c.write_between.ensures.written (draft0 p host port path query os) out held0 in
    let held2 = c.add_option.ensures.written (draft1 p host port path query os) out held1 in
    let held3 = c.write_between-2.ensures.written (draft2 p host port path query os) out held2 in
    let held4 = c.add_option-2.ensures.written (draft3 p host port path query os) out held3 in
    let held5 = c.write_between-3.ensures.written (draft4 p host port path query os) out held4 in
    let held6 = c.write_parts.ensures.written (draft5 p host port path query os) out held5 in
    let held7 = c.write_between-4.ensures.written (draft6 p host port path query os) out held6 in
    let held8 = c.write_parts-2.ensures.written (draft7 p host port path query os) out held7 in
    let all = takes0 p host port path query os (length out) c.options-options.ensures up c.requires.code c.requires.room c.requires.fits in
    (draft8 p host port path query os, out, held8, takes_part (length out) (draft8 p host port path query os) (between 16 34 os) (between 36 65535 os) (takes8 p host port path query os (length out) all))

pub write_between-requires-6 : goal.write_between-requires-6
write_between-requires-6 c =
    let p = parts_of c.args.request.now in
    let host = c.args.host.now in
    let port = c.args.port.now in
    let path = parts_left c.args.path in
    let query = parts_left c.args.query in
    let out = c.args.out.now in
    let os : List Entry = options_left c.options-options.result in
    let up = c.options_ascend.ensures.held_message c.args.request.now in
    let held0 = c.begin-writer.ensures.made in
    let held1 = c.write_between.ensures.written (draft0 p host port path query os) out held0 in
    let held2 = c.add_option.ensures.written (draft1 p host port path query os) out held1 in
    let held3 = c.write_between-2.ensures.written (draft2 p host port path query os) out held2 in
    let held4 = c.add_option-2.ensures.written (draft3 p host port path query os) out held3 in
    let held5 = c.write_between-3.ensures.written (draft4 p host port path query os) out held4 in
    let held6 = c.write_parts.ensures.written (draft5 p host port path query os) out held5 in
    let held7 = c.write_between-4.ensures.written (draft6 p host port path query os) out held6 in
    let held8 = c.write_parts-2.ensures.written (draft7 p host port path query os) out held7 in
    let held9 = c.write_between-5.ensures.written (draft8 p host port path query os) out held8 in
    let all = takes0 p host port path query os (length out) c.options-options.ensures up c.requires.code c.requires.room c.requires.fits in
    (draft9 p host port path query os, out, held9, (takes9 p host port path query os (length out) all))

pub unreachable-requires : goal.unreachable-requires
unreachable-requires c =
    let p = parts_of c.args.request.now in
    let host = c.args.host.now in
    let port = c.args.port.now in
    let path = parts_left c.args.path in
    let query = parts_left c.args.query in
    let out = c.args.out.now in
    let os : List Entry = options_left c.options-options.result in
    let up = c.options_ascend.ensures.held_message c.args.request.now in
    let held0 = c.begin-writer.ensures.made in
    let held1 = c.write_between.ensures.written (draft0 p host port path query os) out held0 in
    let held2 = c.add_option.ensures.written (draft1 p host port path query os) out held1 in
    let held3 = c.write_between-2.ensures.written (draft2 p host port path query os) out held2 in
    let held4 = c.add_option-2.ensures.written (draft3 p host port path query os) out held3 in
    let held5 = c.write_between-3.ensures.written (draft4 p host port path query os) out held4 in
    let held6 = c.write_parts.ensures.written (draft5 p host port path query os) out held5 in
    let held7 = c.write_between-4.ensures.written (draft6 p host port path query os) out held6 in
    let held8 = c.write_parts-2.ensures.written (draft7 p host port path query os) out held7 in
    let held9 = c.write_between-5.ensures.written (draft8 p host port path query os) out held8 in
    let held10 = c.write_between-6.ensures.written (draft9 p host port path query os) out held9 in
    let all = takes0 p host port path query os (length out) c.options-options.ensures up c.requires.code c.requires.room c.requires.fits in
    let takes = split_payload p host port path query os c.payload.result.now (length out) c.options-options.ensures c.payload.ensures c.requires.code c.requires.room c.requires.fits in
    not_err c.payload-2.result _ c.in_default.is
    (taken_either c.payload.result.now c.payload-2.result (λ empty. (c.payload-2.ensures.nothing empty).0) (λ some. c.payload-2.ensures.accepts _ _ held10 some takes))

pub returns-clause-written : goal.returns-clause-written
returns-clause-written c =
    let p = parts_of c.args.request.now in
    let host = c.args.host.now in
    let port = c.args.port.now in
    let path = parts_left c.args.path in
    let query = parts_left c.args.query in
    let out = c.args.out.now in
    let os : List Entry = options_left c.options-options.result in
    let up = c.options_ascend.ensures.held_message c.args.request.now in
    let held0 = c.begin-writer.ensures.made in
    let held1 = c.write_between.ensures.written (draft0 p host port path query os) out held0 in
    let held2 = c.add_option.ensures.written (draft1 p host port path query os) out held1 in
    let held3 = c.write_between-2.ensures.written (draft2 p host port path query os) out held2 in
    let held4 = c.add_option-2.ensures.written (draft3 p host port path query os) out held3 in
    let held5 = c.write_between-3.ensures.written (draft4 p host port path query os) out held4 in
    let held6 = c.write_parts.ensures.written (draft5 p host port path query os) out held5 in
    let held7 = c.write_between-4.ensures.written (draft6 p host port path query os) out held6 in
    let held8 = c.write_parts-2.ensures.written (draft7 p host port path query os) out held7 in
    let held9 = c.write_between-5.ensures.written (draft8 p host port path query os) out held8 in
    let held10 = c.write_between-6.ensures.written (draft9 p host port path query os) out held9 in
    let all = takes0 p host port path query os (length out) c.options-options.ensures up c.requires.code c.requires.room c.requires.fits in
    let held = subst (λ (d : Draft). Holds c.payload-2.new.self d out) (split_whole p host port path query os c.payload.result.now c.options-options.ensures c.payload.ensures) (c.in-Ok.ensures.taken _ _ held10) in
    search rules

pub returns-clause-behind : goal.returns-clause-behind
returns-clause-behind c =
    let p = parts_of c.args.request.now in
    let host = c.args.host.now in
    let port = c.args.port.now in
    let path = parts_left c.args.path in
    let query = parts_left c.args.query in
    let out = c.args.out.now in
    let os : List Entry = options_left c.options-options.result in
    let up = c.options_ascend.ensures.held_message c.args.request.now in
    let held0 = c.begin-writer.ensures.made in
    let held1 = c.write_between.ensures.written (draft0 p host port path query os) out held0 in
    let held2 = c.add_option.ensures.written (draft1 p host port path query os) out held1 in
    let held3 = c.write_between-2.ensures.written (draft2 p host port path query os) out held2 in
    let held4 = c.add_option-2.ensures.written (draft3 p host port path query os) out held3 in
    let held5 = c.write_between-3.ensures.written (draft4 p host port path query os) out held4 in
    let held6 = c.write_parts.ensures.written (draft5 p host port path query os) out held5 in
    let held7 = c.write_between-4.ensures.written (draft6 p host port path query os) out held6 in
    let held8 = c.write_parts-2.ensures.written (draft7 p host port path query os) out held7 in
    let held9 = c.write_between-5.ensures.written (draft8 p host port path query os) out held8 in
    let held10 = c.write_between-6.ensures.written (draft9 p host port path query os) out held9 in
    let all = takes0 p host port path query os (length out) c.options-options.ensures up c.requires.code c.requires.room c.requires.fits in
    let held = subst (λ (d : Draft). Holds c.payload-2.new.self d out) (split_whole p host port path query os c.payload.result.now c.options-options.ensures c.payload.ensures) (c.in-Ok.ensures.taken _ _ held10) in
    search rules
