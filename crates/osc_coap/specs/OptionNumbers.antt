-- To be believed: the numbers of the options that definitions name, in ascending order.
use Rattle.std.specs.Prelude.{ℕ}

-- the number of Uri-Host (RFC 7252, 5.10.1)
abbrev pub uri_host : ℕ
uri_host = 3

-- the number of Observe (RFC 7641, 2)
abbrev pub observe : ℕ
observe = 6

-- the number of Uri-Port (RFC 7252, 5.10.1)
abbrev pub uri_port : ℕ
uri_port = 7

-- the number of OSCORE (RFC 8613, 2)
abbrev pub oscore : ℕ
oscore = 9

-- the number of Max-Age (RFC 7252, 5.10.5)
abbrev pub max_age : ℕ
max_age = 14

-- the number of Q-Block1 (RFC 9177, 4.1)
abbrev pub q_block1 : ℕ
q_block1 = 19

-- the number of Block2 (RFC 7959, 2.1)
abbrev pub block2 : ℕ
block2 = 23

-- the number of Block1 (RFC 7959, 2.1)
abbrev pub block1 : ℕ
block1 = 27

-- the number of Q-Block2 (RFC 9177, 4.1)
abbrev pub q_block2 : ℕ
q_block2 = 31

-- the number of Proxy-Uri (RFC 7252, 5.10.2)
abbrev pub proxy_uri : ℕ
proxy_uri = 35

-- the number of Proxy-Scheme (RFC 7252, 5.10.2)
abbrev pub proxy_scheme : ℕ
proxy_scheme = 39

-- the number of Echo (RFC 9175, 2.2.1)
abbrev pub echo : ℕ
echo = 252
