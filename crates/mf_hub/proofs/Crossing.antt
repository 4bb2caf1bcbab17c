-- Passes go to other threads, and a hub is shared by them.
use denote.RattleType.{RattleType}
use denote.Param.Send.{IsSend, IsSync, sendable, view_send}
use denote.Param.SendFields.{declared_send, declared_sync, variants_send, variants_sync}
use Rattle.std.proofs.Crossing.{crosses}
use Rattle.std.proofs.MapsCrossing as maps
use Rattle.std.specs.contracts.alloc.Global.{the_row as global_row}
use Rattle.std.specs.contracts.impls.GlobalAllocator.TheImpl.{ghosts}
use Rattle.std.specs.contracts.sync.Arc.{the_row as arc_row}
use Rattle.mf_text.specs.contracts.list.List as list
use Rattle.mf_text.specs.contracts.direction.Direction as direction
use Rattle.mf_text.specs.contracts.text.Text as text
use Rattle.mf_text.specs.contracts.pair.Pair as pair
use Rattle.mf_plural.specs.contracts.rule.Category as category
use Rattle.mf_plural.specs.contracts.rule.Operand as quantity
use Rattle.mf_plural.specs.contracts.rule.Item as range
use Rattle.mf_plural.specs.contracts.rule.Relation as relation
use Rattle.mf_plural.specs.contracts.rule.Rule as rule
use Rattle.mf_numfmt.specs.contracts.layout.Layout as layout
use Rattle.mf_locale.specs.contracts.tag.Tag as tag
use Rattle.mf_locale.specs.contracts.record.LocaleRecord as locale
use Rattle.mf_locale.specs.contracts.shared.SharedRecord as shared_locale
use Rattle.mf_tree.specs.contracts.name.Name as name
use Rattle.mf_tree.specs.contracts.name.Identifier as identifier
use Rattle.mf_tree.specs.contracts.expression.Operand as operand
use Rattle.mf_tree.specs.contracts.expression.OptionValue as option_value
use Rattle.mf_tree.specs.contracts.expression.OptionNode as option_node
use Rattle.mf_tree.specs.contracts.expression.Attribute as attribute
use Rattle.mf_tree.specs.contracts.expression.Call as call
use Rattle.mf_tree.specs.contracts.expression.Expression as expression
use Rattle.mf_tree.specs.contracts.pattern.Form as form
use Rattle.mf_tree.specs.contracts.pattern.Markup as markup
use Rattle.mf_tree.specs.contracts.pattern.Piece as piece
use Rattle.mf_tree.specs.contracts.message.Key as key
use Rattle.mf_tree.specs.contracts.message.Variant as variant
use Rattle.mf_tree.specs.contracts.message.Declaration as declaration
use Rattle.mf_tree.specs.contracts.message.Body as body
use Rattle.mf_tree.specs.contracts.message.Message as message
use Rattle.mf_tree.specs.contracts.fault.Kind as kind
use Rattle.mf_tree.specs.contracts.fault.Fault as fault
use Rattle.mf_plan.specs.contracts.plan.Plan as plan
use Rattle.mf_value.specs.contracts.entries.Entries as entries
use Rattle.mf_value.specs.contracts.handler.HandlerDef as def
use Rattle.mf_edition.specs.contracts.item.Item as item
use Rattle.mf_edition.specs.contracts.catalogue.Catalogue as catalogue
use Rattle.mf_edition.specs.contracts.handler.Handler as handler
use Rattle.mf_edition.specs.contracts.handler.SharedHandler as shared_handler
use Rattle.mf_edition.specs.contracts.change.Change as change
use Rattle.mf_edition.specs.contracts.change.Entry as entry
use Rattle.mf_edition.specs.contracts.log.Log as log
use Rattle.mf_edition.specs.contracts.record.Records as records
use Rattle.mf_edition.specs.contracts.handlers.Handlers as handlers
use Rattle.mf_edition.specs.contracts.edition.Edition as edition
use Rattle.mf_flight.specs.contracts.slot.State as state
use Rattle.mf_flight.specs.contracts.slot.Slot as slot
use Rattle.mf_flight.specs.contracts.sheet.Sheet as sheet
use Rattle.mf_flight.specs.contracts.flights.Flights as flights
use Rattle.mf_core.specs.contracts.caller.CallerState as caller
use Rattle.mf_core.specs.contracts.held.Held as held
use Rattle.mf_core.specs.contracts.board.Board as board
use Rattle.mf_hub.specs.contracts.store.Store as store
use Rattle.mf_hub.specs.contracts.store.Store.TheInside as fields
use Rattle.mf_hub.specs.contracts.pass.Pass as pass
use Rattle.mf_hub.specs.contracts.pass.Note as note
use Rattle.mf_hub.specs.contracts.hub.Hub as hub
use Rattle.mf_turn.proofs.Crossing.{seat_send, turn_sync}

list_send : (T : RattleType) → IsSend T → IsSend (list.the_row T)
list_send T send = search (sendable, crosses) depth 30

list_sync : (T : RattleType) → IsSync T → IsSync (list.the_row T)
list_sync T sync = search (sendable, crosses) depth 30

direction_send : IsSend direction.the_row
direction_send = search (sendable, crosses) depth 30 fits 20000

direction_sync : IsSync direction.the_row
direction_sync = search (sendable, crosses) depth 30 fits 20000

text_send : IsSend text.the_row
text_send = search (sendable, crosses) depth 30 fits 20000

text_sync : IsSync text.the_row
text_sync = search (sendable, crosses) depth 30 fits 20000

pair_send : IsSend pair.the_row
pair_send = search (sendable, crosses) depth 30 fits 20000

pair_sync : IsSync pair.the_row
pair_sync = search (sendable, crosses) depth 30 fits 20000

category_send : IsSend category.the_row
category_send = search (sendable, crosses) depth 30 fits 20000

category_sync : IsSync category.the_row
category_sync = search (sendable, crosses) depth 30 fits 20000

quantity_send : IsSend quantity.the_row
quantity_send = search (sendable, crosses) depth 30 fits 20000

quantity_sync : IsSync quantity.the_row
quantity_sync = search (sendable, crosses) depth 30 fits 20000

range_send : IsSend range.the_row
range_send = search (sendable, crosses) depth 30 fits 20000

range_sync : IsSync range.the_row
range_sync = search (sendable, crosses) depth 30 fits 20000

relation_send : IsSend relation.the_row
relation_send = search (sendable, crosses, range_send) depth 30 fits 20000

relation_sync : IsSync relation.the_row
relation_sync = search (sendable, crosses, range_sync) depth 30 fits 20000

rule_send : IsSend rule.the_row
rule_send = search (sendable, crosses, list_send, relation_send) depth 30 fits 20000

rule_sync : IsSync rule.the_row
rule_sync = search (sendable, crosses, list_sync, relation_sync) depth 30 fits 20000

layout_send : IsSend layout.the_row
layout_send = search (sendable, crosses, text_send) depth 30 fits 20000

layout_sync : IsSync layout.the_row
layout_sync = search (sendable, crosses, text_sync) depth 30 fits 20000

tag_send : IsSend tag.the_row
tag_send = search (sendable, crosses, text_send) depth 30 fits 20000

tag_sync : IsSync tag.the_row
tag_sync = search (sendable, crosses, text_sync) depth 30 fits 20000

locale_send : IsSend locale.the_row
locale_send = search (sendable, crosses, rule_send) depth 30 fits 20000

locale_sync : IsSync locale.the_row
locale_sync = search (sendable, crosses, rule_sync) depth 30 fits 20000

shared_locale_send : IsSend shared_locale.the_row
shared_locale_send = search (sendable, crosses, locale_send, locale_sync) depth 30 fits 20000

shared_locale_sync : IsSync shared_locale.the_row
shared_locale_sync = search (sendable, crosses, locale_sync, locale_send) depth 30 fits 20000

name_send : IsSend name.the_row
name_send = search (sendable, crosses, text_send) depth 30 fits 20000

name_sync : IsSync name.the_row
name_sync = search (sendable, crosses, text_sync) depth 30 fits 20000

identifier_send : IsSend identifier.the_row
identifier_send = search (sendable, crosses, name_send) depth 30 fits 20000

identifier_sync : IsSync identifier.the_row
identifier_sync = search (sendable, crosses, name_sync) depth 30 fits 20000

operand_send : IsSend operand.the_row
operand_send = search (sendable, crosses, text_send) depth 30 fits 20000

operand_sync : IsSync operand.the_row
operand_sync = search (sendable, crosses, text_sync) depth 30 fits 20000

option_value_send : IsSend option_value.the_row
option_value_send = search (sendable, crosses, text_send) depth 30 fits 20000

option_value_sync : IsSync option_value.the_row
option_value_sync = search (sendable, crosses, text_sync) depth 30 fits 20000

option_node_send : IsSend option_node.the_row
option_node_send = search (sendable, crosses) depth 30 fits 20000

option_node_sync : IsSync option_node.the_row
option_node_sync = search (sendable, crosses) depth 30 fits 20000

attribute_send : IsSend attribute.the_row
attribute_send = search (sendable, crosses, text_send) depth 30 fits 20000

attribute_sync : IsSync attribute.the_row
attribute_sync = search (sendable, crosses, text_sync) depth 30 fits 20000

call_send : IsSend call.the_row
call_send = search (sendable, crosses, option_node_send) depth 30 fits 20000

call_sync : IsSync call.the_row
call_sync = search (sendable, crosses, option_node_sync) depth 30 fits 20000

expression_send : IsSend expression.the_row
expression_send = search (sendable, crosses, call_send, attribute_send) depth 30 fits 20000

expression_sync : IsSync expression.the_row
expression_sync = search (sendable, crosses, call_sync, attribute_sync) depth 30 fits 20000

form_send : IsSend form.the_row
form_send = search (sendable, crosses) depth 30 fits 20000

form_sync : IsSync form.the_row
form_sync = search (sendable, crosses) depth 30 fits 20000

markup_send : IsSend markup.the_row
markup_send = search (sendable, crosses, option_node_send, attribute_send) depth 30 fits 20000

markup_sync : IsSync markup.the_row
markup_sync = search (sendable, crosses, option_node_sync, attribute_sync) depth 30 fits 20000

piece_send : IsSend piece.the_row
piece_send = variants_send piece.enum ((text_send, tt), ((expression_send, tt), ((markup_send, tt), tt)))

piece_sync : IsSync piece.the_row
piece_sync = variants_sync piece.enum ((text_sync, tt), ((expression_sync, tt), ((markup_sync, tt), tt)))

key_send : IsSend key.the_row
key_send = search (sendable, crosses, text_send) depth 30 fits 20000

key_sync : IsSync key.the_row
key_sync = search (sendable, crosses, text_sync) depth 30 fits 20000

variant_send : IsSend variant.the_row
variant_send = search (sendable, crosses, list_send, key_send, piece_send) depth 30 fits 20000

variant_sync : IsSync variant.the_row
variant_sync = search (sendable, crosses, list_sync, key_sync, piece_sync) depth 30 fits 20000

declaration_send : IsSend declaration.the_row
declaration_send = variants_send declaration.enum ((name_send, (expression_send, tt)), ((name_send, (expression_send, tt)), tt))

declaration_sync : IsSync declaration.the_row
declaration_sync = variants_sync declaration.enum ((name_sync, (expression_sync, tt)), ((name_sync, (expression_sync, tt)), tt))

body_send : IsSend body.the_row
body_send = search (sendable, crosses, list_send, piece_send, name_send, variant_send) depth 30 fits 20000

body_sync : IsSync body.the_row
body_sync = search (sendable, crosses, list_sync, piece_sync, name_sync, variant_sync) depth 30 fits 20000

message_send : IsSend message.the_row
message_send = declared_send message.the_type (list_send declaration.the_row declaration_send, (body_send, tt))

message_sync : IsSync message.the_row
message_sync = declared_sync message.the_type (list_sync declaration.the_row declaration_sync, (body_sync, tt))

kind_send : IsSend kind.the_row
kind_send = search (sendable, crosses) depth 30 fits 20000

kind_sync : IsSync kind.the_row
kind_sync = search (sendable, crosses) depth 30 fits 20000

fault_send : IsSend fault.the_row
fault_send = search (sendable, crosses, text_send) depth 30 fits 20000

fault_sync : IsSync fault.the_row
fault_sync = search (sendable, crosses, text_sync) depth 30 fits 20000

plan_send : IsSend plan.the_row
plan_send = variants_send plan.enum ((list_send fault.the_row fault_send, tt), ((message_send, tt), tt))

plan_sync : IsSync plan.the_row
plan_sync = variants_sync plan.enum ((list_sync fault.the_row fault_sync, tt), ((message_sync, tt), tt))

entries_send : IsSend entries.the_row
entries_send = search (sendable, crosses, maps.crosses, pair_send, text_send) depth 30 fits 20000

entries_sync : IsSync entries.the_row
entries_sync = search (sendable, crosses, maps.crosses, pair_sync, text_sync) depth 30 fits 20000

def_send : IsSend def.the_row
def_send = search (sendable, crosses, list_send, pair_send, text_send, entries_send) depth 30 fits 20000

def_sync : IsSync def.the_row
def_sync = search (sendable, crosses, list_sync, pair_sync, text_sync, entries_sync) depth 30 fits 20000

item_send : IsSend item.the_row
item_send = search (sendable, crosses) depth 30 fits 20000

item_sync : IsSync item.the_row
item_sync = search (sendable, crosses) depth 30 fits 20000

catalogue_send : IsSend catalogue.the_row
catalogue_send = search (sendable, crosses, tag_send, item_send, item_sync) depth 30 fits 20000

catalogue_sync : IsSync catalogue.the_row
catalogue_sync = search (sendable, crosses, tag_sync, item_sync, item_send) depth 30 fits 20000

handler_send : IsSend handler.the_row
handler_send = declared_send handler.the_type (identifier_send, (def_send, tt))

handler_sync : IsSync handler.the_row
handler_sync = declared_sync handler.the_type (identifier_sync, (def_sync, tt))

shared_handler_send : IsSend shared_handler.the_row
shared_handler_send = search (sendable, crosses, handler_send, handler_sync) depth 30 fits 20000

shared_handler_sync : IsSync shared_handler.the_row
shared_handler_sync = search (sendable, crosses, handler_sync, handler_send) depth 30 fits 20000

change_send : IsSend change.the_row
change_send = search (sendable, crosses, catalogue_send, tag_send, shared_locale_send, shared_handler_send) depth 30 fits 20000

change_sync : IsSync change.the_row
change_sync = search (sendable, crosses, catalogue_sync, tag_sync, shared_locale_sync, shared_handler_sync) depth 30 fits 20000

entry_send : IsSend entry.the_row
entry_send = declared_send entry.the_type (search sendable depth 10, (search sendable depth 10, (change_send, tt)))

entry_sync : IsSync entry.the_row
entry_sync = declared_sync entry.the_type (search sendable depth 10, (search sendable depth 10, (change_sync, tt)))

log_send : IsSend log.the_row
log_send = search (sendable, crosses, entry_send) depth 30 fits 20000

log_sync : IsSync log.the_row
log_sync = search (sendable, crosses, entry_sync) depth 30 fits 20000

records_send : IsSend records.the_row
records_send = search (sendable, crosses, maps.crosses, shared_locale_send) depth 30 fits 20000

records_sync : IsSync records.the_row
records_sync = search (sendable, crosses, maps.crosses, shared_locale_sync) depth 30 fits 20000

handlers_send : IsSend handlers.the_row
handlers_send = search (sendable, crosses, shared_handler_send) depth 30 fits 20000

handlers_sync : IsSync handlers.the_row
handlers_sync = search (sendable, crosses, shared_handler_sync) depth 30 fits 20000

edition_send : IsSend edition.the_row
edition_send = search (sendable, crosses, item_send, item_sync, records_send, handlers_send, shared_locale_send) depth 30 fits 20000

edition_sync : IsSync edition.the_row
edition_sync = search (sendable, crosses, item_sync, records_sync, handlers_sync, shared_locale_sync, item_send) depth 30 fits 20000

state_send : (P : RattleType) → IsSend P → IsSend (state.the_row P)
state_send P send = search (sendable, crosses, maps.crosses) depth 30

slot_send : (P : RattleType) → IsSend P → IsSend (slot.the_row P)
slot_send P send = search (sendable, crosses, maps.crosses) depth 30

sheet_send : (P : RattleType) → IsSend P → IsSend (sheet.the_row P)
sheet_send P send = search (sendable, crosses, maps.crosses, slot_send) depth 30

flights_send : (P : RattleType) → IsSend P → IsSend (flights.the_row P)
flights_send P send = search (sendable, crosses, maps.crosses, sheet_send) depth 30

caller_send : IsSend caller.the_row
caller_send = search (sendable, crosses) depth 30 fits 20000

held_send : IsSend held.the_row
held_send = search (sendable, crosses) depth 30 fits 20000

board_send : (P : RattleType) → IsSend P → IsSend (board.the_row P)
board_send P send = declared_send (board.the_type P) (
  log_send,
  (search (sendable, crosses, caller_send) depth 30, (search (sendable, crosses, held_send) depth 30, (flights_send P send, tt))),
)

shared_plan_send : IsSend (arc_row plan.the_row global_row ghosts)
shared_plan_send = search (sendable, crosses, plan_send, plan_sync) depth 30

shared_board_send : IsSend (board.the_row (arc_row plan.the_row global_row ghosts))
shared_board_send = board_send (arc_row plan.the_row global_row ghosts) shared_plan_send

shared_edition_send : IsSend (arc_row edition.the_row global_row ghosts)
shared_edition_send = search (sendable, crosses, edition_send, edition_sync) depth 30

fields_send : IsSend fields.the_row
fields_send = declared_send fields.the_type (shared_board_send, (shared_edition_send, (search sendable depth 10, tt)))

pub store_send : IsSend store.the_row
store_send = search (view_send, fields_send) depth 10

pub pass_send : IsSend pass.the_row
pass_send = search (sendable, crosses, seat_send, store_send, edition_send, edition_sync) depth 30 fits 20000

pub note_send : IsSend note.the_row
note_send = search (sendable, crosses, seat_send, store_send) depth 30 fits 20000

pub hub_sync : IsSync hub.the_row
hub_sync = search (sendable, crosses, turn_sync, store_send) depth 30 fits 20000
